use Rattle.std.proofs.Common.{◌≡◌, ◌≤◌, ◌+◌, length}
use Rattle.cany_model.specs.Rules.Actions.{actions_of}
use Rattle.cany_node.specs.Asks.{asked_as}
use Rattle.cany_node.proofs.AskFacts.{KeepsAsking}
use Rattle.cany_node.proofs.asks.ask_due.Given as goal

abbrev pub invariant-loop-kind : goal.invariant-loop-kind
invariant-loop-kind l = record {
  keeps : KeepsAsking l.slot
      (actions_of l.fn.membership.views.params.format
      (asked_as l.kind l.fn.membership.views.params 0 l.fn.membership.views.node l.slot l.fn.membership.views.members))
      l.fn.plan l.plan l.fn.out.items l.out.items;
  same : l.membership ≡ l.fn.membership;
  spare : length l.out.items + length l.plan ≤ length l.fn.out.items + length l.fn.plan;
  room : l.out.room ≡ l.fn.out.room;
}

abbrev pub decreases-loop-kind : goal.decreases-loop-kind
decreases-loop-kind l = length l.plan
