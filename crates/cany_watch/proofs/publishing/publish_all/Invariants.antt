use Rattle.cany_watch.specs.Halls.{HavePublished}
use Rattle.cany_watch.proofs.publishing.publish_all.Given as goal

abbrev pub invariant-loop-i : goal.invariant-loop-i
invariant-loop-i g l = HavePublished l.is_all l.world l.i l.fn.publishers l.publishers
