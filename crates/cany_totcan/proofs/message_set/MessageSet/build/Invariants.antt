-- So many empty sets were pushed.
use Rattle.std.proofs.Common.{◌≡◌, replicate}
use Rattle.cany_base.specs.Nodes.{nobody}
use Rattle.cany_totcan.proofs.message_set.MessageSet.build.Given as goal

abbrev pub invariant-loop : goal.invariant-loop
invariant-loop l = (l.origins.items ≡ replicate l.counter nobody) × (l.origins.room ≡ l.numbers)
