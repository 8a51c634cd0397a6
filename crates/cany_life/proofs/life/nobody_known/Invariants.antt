-- So many empty sets were pushed.
use Rattle.std.proofs.Common.{◌≡◌, replicate}
use Rattle.cany_base.specs.Nodes.{nobody}
use Rattle.cany_life.proofs.life.nobody_known.Given as goal

abbrev pub invariant-loop : goal.invariant-loop
invariant-loop l = (l.known.items ≡ replicate l.counter nobody) × (l.known.room ≡ l.cycles)
