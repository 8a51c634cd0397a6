-- The numbers of nodes as text.
use Rattle.std.specs.Prelude.{ℕ, List, ◌∷◌, decimal}

-- a number with a comma before it
abbrev pub with_comma : ℕ → List ℕ
with_comma n = 44 ∷ decimal n
