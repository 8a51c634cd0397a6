use Rattle.std.proofs.Common.{◌≡◌}
use Rattle.cany_crew.proofs.worker.take_turns.Given as goal

abbrev pub invariant-loop : goal.invariant-loop
invariant-loop g l = (l.seat.node ≡ l.fn.seat.node) × (g.G.Gate.refusals l.gate ≡ g.G.Gate.refusals l.fn.gate)
