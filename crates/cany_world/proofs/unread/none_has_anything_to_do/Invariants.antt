use Rattle.cany_world.proofs.Idle.PassFacts.{HaveNothingToDoBelow}
use Rattle.cany_world.proofs.unread.none_has_anything_to_do.Given as goal

abbrev pub invariant-loop-i : goal.invariant-loop-i
invariant-loop-i l = HaveNothingToDoBelow l.i l.controllers
