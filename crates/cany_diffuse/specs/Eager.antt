-- What a contract sees of the copies that are kept, and what each call does to them.
use Rattle.std.specs.Prelude.{◌≡◌, ℕ, ◌+◌, ◌-◌, ◌^◌, ◌<◌, ◌≤◌, ◌==◌, ◌⊎◌, ◌&&◌, ◌||◌, Bool, true, false, not, nat_le, nat_lt, min, if◌then◌else◌, IsTrue, List, [], ◌∷◌, length, map, is_some}
use Rattle.cany_diffuse.specs.declared.counts.Noted.{Noted}
use Rattle.cany_diffuse.specs.declared.learnt.Learnt.{Learnt}
use Rattle.cany_diffuse.specs.declared.learnt.Learnt.TheVariants.{First, Again, Enough}
use Rattle.cany_diffuse.specs.Counts.{entry_in, noted_in}

-- how many omissions there may be, how many keys there may be, and what is noted of each key that
-- is there. Contracts read it by the words below alone: the order of the entries means nothing.
pub record EagerParts : Type 0 where
  pub omit : ℕ
  pub room : ℕ
  pub entries : List (ℕ × Noted)

-- the copies of a key read since it was last forgotten
unfoldable pub copies_of : EagerParts → ℕ → ℕ
copies_of parts key = (noted_in parts.entries key).copies

-- whether the node's own transmission was read since then
unfoldable pub is_owned : EagerParts → ℕ → Bool
is_owned parts key = (noted_in parts.entries key).owned

-- whether the key was ever learnt or owned
unfoldable pub is_there : EagerParts → ℕ → Bool
is_there parts key = is_some (entry_in parts.entries key)

-- the keys that are there
unfoldable pub keys_of : EagerParts → List ℕ
keys_of parts = map (λ e. e.0) parts.entries

-- how many keys more there may be
abbrev pub spare_of : EagerParts → ℕ
spare_of parts = parts.room - length (keys_of parts)

-- whether anything is noted of a key
abbrev pub is_held : EagerParts → ℕ → Bool
is_held parts key = nat_lt 0 (copies_of parts key) || is_owned parts key

abbrev pub is_among : ℕ → List ℕ → Bool
is_among key [] = false
is_among key (k ∷ keys) = key == k || is_among key keys

abbrev pub AllDistinct : List ℕ → Type 0
AllDistinct [] = Unit {0}
AllDistinct (k ∷ keys) = (is_among k keys ≡ false) × AllDistinct keys

-- each key that is there is there once, and there are no more than there is room for
pub record IsCounted (parts : EagerParts) : Type 0 where
  pub once : AllDistinct (keys_of parts)
  pub there : (key : ℕ) → is_there parts key ≡ is_among key (keys_of parts)
  pub fits : length (keys_of parts) ≤ parts.room

-- a key may be learnt or owned: there is room for one more, or it is there
abbrev pub HasRoomFor : ℕ → EagerParts → Type 0
HasRoomFor key parts = (0 < spare_of parts) ⊎ IsTrue (is_there parts key)

-- one copy more: a count stands still at the end of its type
abbrev pub raised : ℕ → ℕ
raised copies = min (copies + 1) (2 ^ 32 - 1)

-- nothing is there
pub record IsFresh (omissions values : ℕ) (parts : EagerParts) : Type 0 where
  pub omit : parts.omit ≡ omissions
  pub room : parts.room ≡ values
  pub copies : (key : ℕ) → copies_of parts key ≡ 0
  pub owned : (key : ℕ) → is_owned parts key ≡ false
  pub there : (key : ℕ) → is_there parts key ≡ false
  pub spare : spare_of parts ≡ values

-- the key is there; where it was not, one key less may come
pub record IsPut (key : ℕ) (old new : EagerParts) : Type 0 where
  pub omit : new.omit ≡ old.omit
  pub room : new.room ≡ old.room
  pub there : (q : ℕ) → is_there new q ≡ (q == key || is_there old q)
  pub spare : spare_of new + (if is_there old key then 0 else 1) ≡ spare_of old

-- one copy more of the key, and nothing else
pub record IsLearnt (key : ℕ) (old new : EagerParts) : Type 0 where
  pub put : IsPut key old new
  pub copies : (q : ℕ) → copies_of new q ≡ (if q == key then raised (copies_of old q) else copies_of old q)
  pub owned : (q : ℕ) → is_owned new q ≡ is_owned old q

-- the node's own transmission is noted, and nothing else
pub record IsOwned (key : ℕ) (old new : EagerParts) : Type 0 where
  pub put : IsPut key old new
  pub copies : (q : ℕ) → copies_of new q ≡ copies_of old q
  pub owned : (q : ℕ) → is_owned new q ≡ (q == key || is_owned old q)

-- nothing is noted of the key, and all else is as before
pub record IsForgotten (key : ℕ) (old new : EagerParts) : Type 0 where
  pub omit : new.omit ≡ old.omit
  pub room : new.room ≡ old.room
  pub copies : (q : ℕ) → copies_of new q ≡ (if q == key then 0 else copies_of old q)
  pub owned : (q : ℕ) → is_owned new q ≡ (not (q == key) && is_owned old q)
  pub there : (q : ℕ) → is_there new q ≡ is_there old q
  pub spare : spare_of new ≡ spare_of old

-- what a copy calls for, with so many copies, this one counted, and with or without the node's own
-- transmission
abbrev pub learnt_of : ℕ → ℕ → Bool → Learnt
learnt_of omit copies owned =
    if nat_le (omit + 1) copies then Enough copies
    else if copies == 1 && not owned then First
    else Again copies

-- whether the copy that was counted is the first that was read
abbrev pub is_first_copy : Learnt → Bool
is_first_copy First = true
is_first_copy (Again copies) = copies == 1
is_first_copy (Enough copies) = copies == 1

-- whether it is one of more than there may be omissions
abbrev pub is_enough : Learnt → Bool
is_enough First = false
is_enough (Again copies) = false
is_enough (Enough copies) = true
