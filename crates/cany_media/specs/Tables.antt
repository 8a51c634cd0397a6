-- What is planned for each of the two lines.
use Rattle.std.specs.Prelude.{List}
use Rattle.cany_media.specs.declared.tables.LineTables.{LineTables}
use Rattle.cany_media.specs.Plan.{FaultParts}
use Rattle.cany_media.specs.Stretches.{IsTableOf}

pub record AreTablesOf (faults : List FaultParts) (tables : LineTables) : Type 0 where
  pub first : IsTableOf faults 0 tables.first
  pub second : IsTableOf faults 1 tables.second
