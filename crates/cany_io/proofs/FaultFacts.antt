-- A count that rose in a part of a run rose in the whole of it.
use Rattle.std.proofs.Common.{ℕ, ◌<◌, ◌≤◌, arith}
use Rattle.cany_io.specs.Faults.{HasRisen}

pub HasRisen-after : (old mid new : ℕ) → old ≤ mid → HasRisen mid new → HasRisen old new
HasRisen-after old mid new below risen = λ open_end. let rose : mid < new = risen open_end in omega arith
