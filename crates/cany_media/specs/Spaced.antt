-- Fields of a line.
use Rattle.std.specs.Prelude.{ℕ, List, ◌∷◌}
use Rattle.std.specs.List.{flat_map}

-- fields, each with a space before it
abbrev pub spaced : List (List ℕ) → List ℕ
spaced fields = flat_map (λ field. 32 ∷ field) fields
