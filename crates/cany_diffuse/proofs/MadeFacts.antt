-- The room for keys that is made stays made as they come.
use Rattle.std.proofs.Common.{◌≡◌, ℕ, ◌+◌, ◌≤◌, Bool, true, false, if◌then◌else◌, refl, arith}
use Rattle.std.specs.Option.{is_some}
use Rattle.std.proofs.lemmas.Bool.{false≢true}
use Rattle.std.specs.declared.cmp.PartialEq as eq
use Rattle.std.specs.declared.hash.Hash as hash
use Rattle.std.specs.declared.hash.Hasher as hasher
use Rattle.std.specs.declared.hash.BuildHasher as builder
use Rattle.indexmap.specs.IndexMap.{IndexMap, index_map_len, spare}
use Rattle.indexmap.specs.Entry.{entry_map, entry_value, map_with_value}
use Rattle.indexmap.specs.declared.map.entry.Entry.TheVariants.{Occupied, Vacant}
use Rattle.indexmap.specs.declared.map.entry.Entry.{Entry}

-- a key that was there leaves the room as it was, and a new one takes one place of it
made-by : (there : Bool) (room old_len old_spare new_len new_spare : ℕ) → room ≤ old_len + old_spare → old_spare ≤ new_spare + 1
    → new_len ≡ old_len + (if there then 0 else 1) → (there ≡ true → old_spare ≤ new_spare) → room ≤ new_len + new_spare
made-by true room old_len old_spare new_len new_spare made room_after len kept = omega (arith, len, kept refl)
made-by false room old_len old_spare new_len new_spare made room_after len kept = omega (arith, len)

module _ {K V S A H : Type 0} {g : eq.Ghosts K} {h : hash.Ghosts K} {b : builder.Ghosts S H} {w : hasher.Ghosts H} where
  -- a write to the entry of a key that is there takes no room
  spare_there : (e : Entry K V S A H g h b w) (v : V) → is_some (entry_value e) ≡ true → spare (map_with_value e v) ≡ spare (entry_map e)
  unfolding entry_value map_with_value
  spare_there (Occupied o) v there = refl
  spare_there (Vacant e) v there = absurd (false≢true there)

  -- there is room for as many keys as before a write to the entry of a key
  pub made-written : (e : Entry K V S A H g h b w) (v : V) (room : ℕ) (m : IndexMap K V S) → room ≤ index_map_len m + spare m → spare m ≤ spare (entry_map e)
      → spare m ≤ spare (map_with_value e v) + 1 → index_map_len (map_with_value e v) ≡ index_map_len m + (if is_some (entry_value e) then 0 else 1)
      → room ≤ index_map_len (map_with_value e v) + spare (map_with_value e v)
  made-written e v room m made kept room_after len =
      made-by (is_some (entry_value e)) room (index_map_len m) (spare m) (index_map_len (map_with_value e v)) (spare (map_with_value e v)) made room_after len
      (λ there. omega (arith, kept, spare_there e v there))
