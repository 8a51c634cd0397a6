-- What gates counted, and which pass each refused last. That of node i stands at place i of a list.
use Rattle.std.specs.Prelude.{◌≡◌, ℕ, ◌<◌, ◌≤◌, List, length, Option, Some, None, All, IfNone, IfSome, MatchOption, slice_index, slice_index_or}
use Rattle.cany_io.specs.Faults.{HasRisen, last_count}

-- a gate was asked until it refused the pass for a slot, and none after it, or it refused none
abbrev pub CountsRefusal : ℕ → Option ℕ → ℕ → Option ℕ → Type 0
CountsRefusal old refused new last = (old ≤ new) × MatchOption refused (new ≡ old) (λ slot. HasRisen old new × (last ≡ Some slot))

-- the gate of this node refused a pass: its count rose, or stands at its last number
abbrev pub HasRefused : ℕ → List ℕ → List ℕ → Type 0
HasRefused node old new = (node < length new) × HasRisen (slice_index old node) (slice_index new node)

-- the gate of this node refused the pass for this slot, and none after it, and the counts of lesser
-- nodes are as they were
pub record IsHeldAt (node slot : ℕ) (old new : List ℕ) (last : List (Option ℕ)) : Type 0 where
  pub refused : HasRefused node old new
  pub slot_is : slice_index_or last node None ≡ Some slot
  pub least : (lesser : ℕ) → lesser < node → slice_index new lesser ≡ slice_index old lesser

-- the gate of some node refused a pass
abbrev pub HasAnyRefused : List ℕ → List ℕ → Type 0
HasAnyRefused old new = (node : ℕ) × HasRefused node old new

-- no count fell, and there are as many as before
pub record NoneFell (old new : List ℕ) : Type 0 where
  pub len : length new ≡ length old
  pub each : (node : ℕ) → slice_index old node ≤ slice_index new node

-- what the gates tell of steps that were all made, or were held at the node and the slot of a pass
-- that was refused
pub record IsOutcome (old new : List ℕ) (last : List (Option ℕ)) (held : Option (ℕ × ℕ)) : Type 0 where
  pub fell : NoneFell old new
  pub passed : IfNone held (new ≡ old)
  pub refused : IfSome held (λ found. IsHeldAt found.0 found.1 old new last)

-- the counts stayed as they were, all below the last number: no pass was refused
abbrev pub NoneRefused : List ℕ → List ℕ → Type 0
NoneRefused old new = (new ≡ old) × All (λ count. count < last_count) new
