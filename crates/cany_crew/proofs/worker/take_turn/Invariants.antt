use Rattle.std.proofs.Common.{◌≡◌}
use Rattle.cany_crew.proofs.worker.take_turn.Given as goal

abbrev pub invariant-loop : goal.invariant-loop
invariant-loop g l = l.seat.node ≡ l.fn.seat.node
