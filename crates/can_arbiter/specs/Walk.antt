-- The walk over the bits of words, most significant first.
use Rattle.std.specs.Prelude.{◌≡◌, ℕ, ◌+◌, ◌/◌, ◌^◌, ◌<◌, ◌≤◌, ◌⊎◌, ◌↔◌, Bool, false, IsTrue}
use Rattle.std.specs.Int.{bit_at}

-- a node offers, and its word is least in the bits from `place` on
pub record Leads (offering : ℕ → Bool) (word : ℕ → ℕ) (place node : ℕ) : Type 0 where
  pub offers : IsTrue (offering node)
  pub least : (other : ℕ) → IsTrue (offering other) → word node / 2 ^ place ≤ word other / 2 ^ place

-- the bits from `place` on are walked: those still send that lead in them
pub record IsWalked (offering sending : ℕ → Bool) (word : ℕ → ℕ) (place : ℕ) : Type 0 where
  pub leads : (node : ℕ) → IsTrue (sending node) → Leads offering word place node
  pub stays : (node : ℕ) → Leads offering word place node → IsTrue (sending node)
  pub nobody : ((node : ℕ) → sending node ≡ false) → (node : ℕ) → offering node ≡ false

-- a node that sends dominant at the place goes on, and one that sends recessive where all do that
-- still send
abbrev pub GoesOn : (ℕ → Bool) → (ℕ → ℕ) → ℕ → ℕ → Type 0
GoesOn sending word place node =
    (bit_at (word node) place ≡ 0) ⊎
    ((other : ℕ) → IsTrue (sending other) → bit_at (word other) place ≡ 1)

-- the walk bit by bit, bit 31 first: those that offer begin, and after the bit at a place those
-- still send that go on there. `sending place` are the nodes that still send once the bits from
-- `place` on are sent
pub record IsWalk (offering : ℕ → Bool) (word : ℕ → ℕ) (sending : ℕ → ℕ → Bool) : Type 0 where
  pub begins : (node : ℕ) → sending 32 node ≡ offering node
  pub stops :
      (place node : ℕ) → place < 32 →
      IsTrue (sending place node) ↔
      (IsTrue (sending (place + 1) node) × GoesOn (sending (place + 1)) word place node)
