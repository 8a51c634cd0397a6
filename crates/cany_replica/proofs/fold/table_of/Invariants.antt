use Rattle.std.proofs.Common.{◌≡◌, take}
use Rattle.cany_model.specs.Promises.Order.{tot_deliveries}
use Rattle.cany_replica.specs.Fold.{table_of}
use Rattle.cany_replica.proofs.fold.table_of.Given as goal

abbrev pub invariant-loop-entry : goal.invariant-loop-entry
invariant-loop-entry l = l.table ≡ table_of (tot_deliveries (take l.entry-index l.log))
