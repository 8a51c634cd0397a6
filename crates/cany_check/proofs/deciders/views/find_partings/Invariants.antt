use Rattle.std.proofs.Common.{◌≡◌, ◌++◌, drop}
use Rattle.std.specs.Prelude.{filter_map}
use Rattle.cany_check.specs.Deciding.ViewRows.{row_parting}
use Rattle.cany_check.proofs.deciders.views.find_partings.Given as goal

abbrev pub invariant-loop-row : goal.invariant-loop-row
invariant-loop-row l = l.found.items ++ filter_map row_parting (drop l.row-index l.rows) ≡ filter_map row_parting l.rows
