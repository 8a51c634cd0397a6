use Rattle.std.proofs.Common.{take}
use Rattle.cany_base.specs.SendCounts.{AreCountsOf}
use Rattle.cany_base.proofs.send_counts.SendCounts.of.Given as goal

abbrev pub invariant-loop-send : goal.invariant-loop-send
invariant-loop-send l = AreCountsOf (take l.send-index l.sends) l.counts
