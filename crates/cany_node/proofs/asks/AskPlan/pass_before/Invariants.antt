use Rattle.std.proofs.Common.{length}
use Rattle.cany_node.proofs.AskFacts.{KeepsAsks}
use Rattle.cany_node.proofs.asks.AskPlan.pass_before.Given as goal

abbrev pub invariant-loop : goal.invariant-loop
invariant-loop l = KeepsAsks l.slot l.fn.self l.self

abbrev pub decreases-loop : goal.decreases-loop
decreases-loop l = length l.self
