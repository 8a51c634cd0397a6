use Rattle.std.proofs.Common.{◌≤◌}
use Rattle.cany_world.proofs.Idle.PassFacts.{PassBelow}
use Rattle.cany_world.proofs.stretch.passed_by_all.Given as goal

abbrev pub invariant-loop-i : goal.invariant-loop-i
invariant-loop-i l = (l.stretch.slots ≤ l.most) × PassBelow l.next l.stretch.slots l.stretch.due l.i l.controllers l.nodes
