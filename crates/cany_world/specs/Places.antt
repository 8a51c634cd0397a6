-- One thing of each node, or of each incarnation of a node, in the order of their numbers.
use Rattle.std.specs.Prelude.{◌≡◌, ℕ, List, length, slice_get, Some}

-- one of each of so many, at the place of its number
pub record AreOfNodes {X : Type 0} (Is : ℕ → X → Type 0) (count : ℕ) (xs : List X) : Type 0 where
  pub whole : length xs ≡ count
  pub each : (i : ℕ) (x : X) → slice_get xs i ≡ Some x → Is i x
