-- A field of a word: a run of bits, the least significant one at a shift.
use Rattle.std.specs.Prelude.{◌<◌, ◌≤◌, ℕ, ◌+◌, ◌/◌, ◌%◌, ◌^◌, ◌⊎◌}

-- the field has a bit and lies in 32 bits
pub record IsPlaced (shift width : ℕ) : Type 0 where
  pub has_bits : 0 < width
  pub in_word : shift + width ≤ 32

-- the value of the field in a word
abbrev pub field_of : ℕ → ℕ → ℕ → ℕ
field_of shift width word = word / 2 ^ shift % 2 ^ width

-- a bit below the field or above it
abbrev pub IsOutside : ℕ → ℕ → ℕ → Type 0
IsOutside shift width bit = (bit < shift) ⊎ (shift + width ≤ bit)
