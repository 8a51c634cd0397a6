use Rattle.std.proofs.Common.{take}
use Rattle.cany_base.specs.Scenario.{HaveDistinctPlaces}
use Rattle.can_fault.specs.Table.{IsTableOf}
use Rattle.can_fault.proofs.script.Script.build.Given as goal

-- the table has the rules so far, and no two of them have one place
abbrev pub invariant-loop-index : goal.invariant-loop-index
invariant-loop-index l = record {
  table : IsTableOf (take l.index l.rules) l.table;
  distinct : HaveDistinctPlaces (take l.index l.rules);
}
