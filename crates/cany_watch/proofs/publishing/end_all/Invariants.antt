use Rattle.std.proofs.Common.{length}
use Rattle.cany_watch.proofs.publishing.end_all.Given as goal

abbrev pub decreases-loop-publisher : goal.decreases-loop-publisher
decreases-loop-publisher g l = length l.publishers.items
