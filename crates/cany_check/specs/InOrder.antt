-- A list that ascends, and has each of its elements once.
use Rattle.std.specs.Prelude.{Bool, if◌then◌else◌, List, [], ◌∷◌}

-- with one more, where it does not stand there yet
unfoldable pub put_once : {X : Type 0} → (X → X → Bool) → X → List X → List X
put_once is_before x [] = x ∷ []
put_once is_before x (y ∷ ys) = if is_before x y then x ∷ (y ∷ ys) else if is_before y x then y ∷ put_once is_before x ys else y ∷ ys

unfoldable pub ascending : {X : Type 0} → (X → X → Bool) → List X → List X
ascending is_before [] = []
ascending is_before (x ∷ xs) = put_once is_before x (ascending is_before xs)
