use Rattle.cany_world.proofs.AlikeFacts.{IsFirstFrom}
use Rattle.cany_world.proofs.unread.first_lagging.Given as goal

abbrev pub invariant-loop-i : goal.invariant-loop-i
invariant-loop-i l = IsFirstFrom l.lag l.i l.controllers
