use Rattle.std.proofs.Common.{◌≡◌, ◌&&◌, true, false, nat_lt, ap, sym, ◌∙◌}
use Rattle.std.specs.Prelude.{is_some}
use Rattle.cany_model.specs.Runs.Run.{run}
use Rattle.cany_model.specs.Bus.State.{RunState, node_at}
use Rattle.cany_model.specs.Promises.Settled.{came_too_late}
use Rattle.cany_world.proofs.InOrder.{in_order}
use Rattle.cany_world.proofs.SettledFacts.{done_by_three}
use Rattle.cany_world.proofs.SpansAndLogs.{came_after_is}
use Rattle.cany_world.proofs.settled.has_asked.Goals as goal

pub returns-then-asked : goal.returns-then-asked
returns-then-asked c scenario journal m ctl kept stands named slot =
    let is = done_by_three scenario (run scenario journal) m _ _ _ _ _ ctl kept c.node.ensures stands named c.asked.ensures.sends in
    rw c.if-asked.true at is

pub returns-then-is_some : goal.returns-then-is_some
returns-then-is_some c scenario journal m ctl kept stands named slot =
    let is = done_by_three scenario (run scenario journal) m _ _ _ _ _ ctl kept c.node.ensures stands named c.asked.ensures.sends in
    let stopped : is_some c.args.controller.now.stopped ≡ true = sym (ap is_some c.stopped.ensures) ∙ sym c.is_some.ensures ∙ c.if-is_some.true in
    c.if-is_some.true ∙ rw (c.if-asked.false, stopped) at is

pub returns-else-is_some : goal.returns-else-is_some
returns-else-is_some c scenario journal m ctl kept stands named slot =
    let s : RunState = run scenario journal in
    let is = done_by_three scenario s m _ _ _ _ _ ctl kept c.node.ensures stands named c.asked.ensures.sends in
    let running : is_some c.args.controller.now.stopped ≡ false = sym (ap is_some c.stopped.ensures) ∙ sym c.is_some.ensures ∙ c.if-is_some.false in
    let late : c.came_after.result ≡ came_too_late s m =
    c.came_after.ensures kept.present.it kept.present.at
    ∙ ap (λ k. nat_lt 0 c.args.node.now.present && nat_lt k kept.present.it.from) (sym slot)
    ∙ came_after_is scenario s.trace m.origin m.slot (node_at s.nodes m.origin) c.args.node.now kept.present.it (in_order scenario journal m.origin) kept kept.present.at in
    late ∙ rw (c.if-asked.false, running) at is
