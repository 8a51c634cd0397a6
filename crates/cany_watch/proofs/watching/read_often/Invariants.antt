use Rattle.cany_watch.specs.Notes.{Follows}
use Rattle.cany_watch.proofs.watching.read_often.Given as goal

abbrev pub invariant-loop : goal.invariant-loop
invariant-loop g l = Follows l.fn.reading l.reading
