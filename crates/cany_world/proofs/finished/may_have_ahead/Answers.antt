use Rattle.std.proofs.Common.{◌≡◌, true, false, refl, ap, sym, ◌∙◌}
use Rattle.std.specs.Prelude.{is_some, not, Bool}
use Rattle.cany_model.specs.Rules.Messages.{message_key}
use Rattle.cany_world.proofs.SettledFacts.{ahead_is, is_running, nothing_at_stopped}
use Rattle.cany_world.proofs.finished.may_have_ahead.Goals as goal

is_true : (b : Bool) → not b ≡ false → b ≡ true
is_true true h = refl
is_true false h = sym h

pub returns-then-is_none : goal.returns-then-is_none
returns-then-is_none c none scenario s i m ctl kept stands by =
    sym (ahead_is scenario s i m (message_key m) c.args.node.now c.node.result.now kept c.node.ensures refl stands c.args.controller.now false ctl
    (is_running c.args.controller.now.stopped c.is_none.result (sym (ap is_some c.stopped.ensures) ∙ c.is_none.ensures) c.if-is_none.true)
    (λ follows past is x there same of_service. sym (c.has_nothing_ahead.ensures (is_true c.has_nothing_ahead.result none) follows past x is there (of_service ∙ by))))

pub returns-else-is_none : goal.returns-else-is_none
returns-else-is_none c none scenario s i m ctl kept stands by =
    nothing_at_stopped scenario s i m c.args.controller.now ctl c.is_none.result (sym (ap is_some c.stopped.ensures) ∙ c.is_none.ensures) c.if-is_none.false
