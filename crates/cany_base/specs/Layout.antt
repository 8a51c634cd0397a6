-- The formats of a scenario: how many nodes there can be, and where number and node lie in an
-- identifier.
use Rattle.std.specs.Prelude.{ℕ}
use Rattle.cany_base.specs.declared.format.Format.{Format}
use Rattle.cany_base.specs.declared.format.Format.TheVariants.{One, Two}
use Rattle.cany_base.specs.Limits.{most_nodes}

-- a field's shift is the place of its least significant bit, its width the count of its bits
pub record Layout : Type 0 where
  pub number_shift : ℕ
  pub number_width : ℕ
  pub node_shift : ℕ
  pub node_width : ℕ
  -- the greatest number of nodes
  pub nodes : ℕ
  -- the bytes of a reception history vector
  pub vector : ℕ

-- the number by which texts name a format
abbrev pub format_number : Format → ℕ
format_number One = 1
format_number Two = 2

abbrev pub layout : Format → Layout
layout One = record { number_shift = 9; number_width = 16; node_shift = 4; node_width = 5; nodes = 32; vector = 4 }
layout Two = record { number_shift = 10; number_width = 15; node_shift = 4; node_width = 6; nodes = most_nodes; vector = 8 }
