-- What is planned for one line, in the order of its slots.
use Rattle.std.specs.Prelude.{◌≡◌, ◌<◌, ◌≤◌, ℕ, nat_le, List, Option, None, find, All, AllPairs, IsSome, IsTrue}
use Rattle.std.specs.List.{position_or_len}
use Rattle.cany_media.specs.Plan.{FaultParts, covers, spans}

-- each fault ends before the next begins
pub record AreInOrder (faults : List FaultParts) : Type 0 where
  pub ordered : All (λ fault. fault.from ≤ fault.to) faults
  pub apart : AllPairs (λ a b. a.to < b.from) faults

-- the fault that has the slot
abbrev pub found_at : List FaultParts → ℕ → Option FaultParts
found_at table slot = find (spans slot) table

-- the first fault that does not end before the slot, and its place
abbrev pub next_at : List FaultParts → ℕ → Option FaultParts
next_at table slot = find (λ fault. nat_le slot fault.to) table

abbrev pub place_at : List FaultParts → ℕ → ℕ
place_at table slot = position_or_len (λ fault. nat_le slot fault.to) table

-- no slot of the fault is one of these
abbrev pub IsFree : List FaultParts → FaultParts → Type 0
IsFree table fault = (slot : ℕ) → IsTrue (spans slot fault) → found_at table slot ≡ None

-- some slot of the fault is
pub record HasShared (table : List FaultParts) (fault : FaultParts) : Type 0 where
  pub slot : ℕ
  pub spanned : IsTrue (spans slot fault)
  pub found : IsSome (found_at table slot)

-- the table has, at each slot, the fault of the line that covers it
abbrev pub IsTableOf : List FaultParts → ℕ → List FaultParts → Type 0
IsTableOf faults line table = (slot : ℕ) → found_at table slot ≡ find (covers line slot) faults
