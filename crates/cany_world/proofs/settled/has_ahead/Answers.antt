use Rattle.std.proofs.Common.{ap, sym, ◌∙◌}
use Rattle.std.specs.Prelude.{is_some}
use Rattle.cany_world.proofs.SettledFacts.{ahead_is, is_running}
use Rattle.cany_world.proofs.settled.has_ahead.Goals as goal

pub returns-then-is_none : goal.returns-then-is_none
returns-then-is_none c scenario s i m ctl kept stands named by =
    ahead_is scenario s i m c.args.key.now c.args.node.now c.node.result.now kept c.node.ensures named stands c.args.controller.now c.ahead_by.result ctl
    (is_running c.args.controller.now.stopped c.is_none.result (sym (ap is_some c.stopped.ensures) ∙ c.is_none.ensures) c.if-is_none.true)
    (λ follows past is x there same of_service. c.ahead_by.ensures follows past is x there same (of_service ∙ by))
