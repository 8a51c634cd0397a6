-- The first fault of a plan that shares a slot with an earlier one.
use Rattle.std.specs.Prelude.{ℕ, ◌==◌, ◌&&◌, Bool, false, nat_le, max, min, List, length, take, find, slice_get, Option}
use Rattle.std.specs.List.{list_any, range_with_len}
use Rattle.std.specs.Option.{option_map_or}
use Rattle.cany_media.specs.Plan.{FaultParts}

-- whether the two are of one line, and the later of their beginnings is not past the earlier of
-- their ends
abbrev pub do_share : FaultParts → FaultParts → Bool
do_share a b = a.line == b.line && nat_le (max a.from b.from) (min a.to b.to)

-- whether the fault shares a slot with one of these
unfoldable pub is_taken : List FaultParts → FaultParts → Bool
is_taken faults fault = list_any (λ earlier. do_share earlier fault) faults

-- whether the fault at this place shares a slot with an earlier one
abbrev pub is_taken_at : List FaultParts → ℕ → Bool
is_taken_at faults k = option_map_or (is_taken (take k faults)) (slice_get faults k) false

-- the first such place
unfoldable pub first_overlap : List FaultParts → Option ℕ
first_overlap faults = find (is_taken_at faults) (range_with_len 0 (length faults))
