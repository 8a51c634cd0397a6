-- What reads do to the bytes that a source has left. `Some` tells them, and `None` claims nothing.
use Rattle.std.specs.Prelude.{◌≡◌, ℕ, ◌≤◌, List, [], length, Option, IfSome}
use Rattle.std.specs.Io.KnownBytes.{prepend_known}

-- the bytes left were these and then those that are left now; where they are told, they stay told
abbrev pub Gives : Option (List ℕ) → List ℕ → Option (List ℕ) → Type 0
Gives old bytes new = old ≡ prepend_known bytes new

-- some n bytes were given
abbrev pub GivesCount : Option (List ℕ) → ℕ → Option (List ℕ) → Type 0
GivesCount old n new = (bytes : List ℕ) × (length bytes ≡ n) × Gives old bytes new

-- some bytes were given, at most n
abbrev pub GivesAtMost : Option (List ℕ) → ℕ → Option (List ℕ) → Type 0
GivesAtMost old n new = (bytes : List ℕ) × (length bytes ≤ n) × Gives old bytes new

-- no byte is left, where that is told
abbrev pub IsAtEnd : Option (List ℕ) → Type 0
IsAtEnd left = IfSome left (λ bytes. bytes ≡ [])
