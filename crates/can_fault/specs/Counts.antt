-- The counts of Partial slots.
use Rattle.std.specs.Prelude.{ℕ, List, unwrap_or}
use Rattle.std.specs.Map.{lookup}
use Rattle.can_fault.specs.declared.counts.Counted.{Counted}
use Rattle.can_fault.specs.Counted.{same_counted}

-- the count of a key, 0 where there is none
abbrev pub partials_of : List (Counted × ℕ) → Counted → ℕ
partials_of counts counted = unwrap_or (lookup (same_counted counted) counts) 0
