use Rattle.std.proofs.Common.{◌≡◌}
use Rattle.cany_world.proofs.Idle.PassFacts.{ArePassedBelow}
use Rattle.cany_world.proofs.resting.pass_all.Given as goal

abbrev pub invariant-loop-i : goal.invariant-loop-i
invariant-loop-i l = ArePassedBelow l.next l.slots l.due l.i l.fn.controllers l.controllers l.fn.nodes l.nodes × (l.actions ≡ l.fn.actions)
