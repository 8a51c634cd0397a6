-- A change of each element of a list by its place.
use Rattle.std.specs.Prelude.{ℕ, ◌+◌, List, [], ◌∷◌}

-- the elements, of which the first has the place i, each changed by its place
unfoldable pub each : {X : Type 0} → (ℕ → X → X) → ℕ → List X → List X
each change i [] = []
each change i (x ∷ xs) = change i x ∷ each change (i + 1) xs
