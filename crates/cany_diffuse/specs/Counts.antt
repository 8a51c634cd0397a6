-- What is noted of keys, as it is kept.
use Rattle.std.specs.Prelude.{◌≡◌, ℕ, ◌+◌, ◌<◌, ◌≤◌, ◌==◌, ◌⊎◌, false, nat_eq, if◌then◌else◌, IsTrue, List, length, Option, Some, is_some, option_map, unwrap_or}
use Rattle.std.specs.Map.{lookup}
use Rattle.std.specs.declared.hash.BuildHasherDefault.{BuildHasherDefault}
use Rattle.indexmap.specs.IndexMap.{IndexMap, IsUnique, index_map_len, spare}
use Rattle.cany_base.specs.Bounded.{Bounded}
use Rattle.cany_diffuse.specs.declared.counts.Noted.{Noted}
use Rattle.cany_diffuse.specs.declared.series.SeriesHasher.{SeriesHasher}

-- what is noted of a key that is not there, and of one that was forgotten
abbrev pub nothing : Noted
nothing = record { copies = 0; owned = false }

-- what is noted of a key, where the key is there
abbrev pub entry_in : List (ℕ × Noted) → ℕ → Option Noted
entry_in entries key = lookup (nat_eq key) entries

-- what is noted of a key
abbrev pub noted_in : List (ℕ × Noted) → ℕ → Noted
noted_in entries key = unwrap_or (entry_in entries key) nothing

-- a key may be entered: there is room for one more, or it is there
abbrev pub MayEnter : ℕ → Bounded (ℕ × Noted) → Type 0
MayEnter key counts = (length counts.items < counts.room) ⊎ IsTrue (is_some (entry_in counts.items key))

-- each key is there once, there are no more than there is room for, and the memory for all of them
-- is taken
pub record HasRoomMade (room : ℕ) (map : IndexMap ℕ Noted (BuildHasherDefault SeriesHasher)) : Type 0 where
  pub once : IsUnique nat_eq map
  pub fits : index_map_len map ≤ room
  pub made : room ≤ index_map_len map + spare map

-- this is noted of the key from now on, and all else is as before
pub record IsEntered (key : ℕ) (noted : Noted) (old new : Bounded (ℕ × Noted)) : Type 0 where
  pub entries : (q : ℕ) → entry_in new.items q ≡ (if q == key then Some noted else entry_in old.items q)
  pub grown : length new.items ≡ length old.items + (if is_some (entry_in old.items key) then 0 else 1)
  pub room : new.room ≡ old.room

-- where the key is there nothing is noted of it from now on, and all else is as before
pub record IsCleared (key : ℕ) (old new : Bounded (ℕ × Noted)) : Type 0 where
  pub entries : (q : ℕ) → entry_in new.items q ≡ (if q == key then option_map (λ _. nothing) (entry_in old.items q) else entry_in old.items q)
  pub same_length : length new.items ≡ length old.items
  pub room : new.room ≡ old.room
