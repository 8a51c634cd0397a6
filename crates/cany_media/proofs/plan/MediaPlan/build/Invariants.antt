use Rattle.std.proofs.Common.{take}
use Rattle.cany_media.specs.Tables.{AreTablesOf}
use Rattle.cany_media.proofs.OverlapFacts.{AreFree}
use Rattle.cany_media.proofs.plan.MediaPlan.build.Given as goal

-- the tables have the faults so far, and none of them shares a slot with an earlier one
abbrev pub invariant-loop-index : goal.invariant-loop-index
invariant-loop-index l = record {
  tables : AreTablesOf (take l.index l.faults) l.tables;
  free : AreFree l.faults l.index;
}
