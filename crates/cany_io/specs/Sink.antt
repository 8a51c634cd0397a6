-- What writes do to the bytes that a sink has taken. `Some` tells them, and `None` claims nothing.
use Rattle.std.specs.Prelude.{◌≡◌, ℕ, ◌≤◌, List, length, take, Option}
use Rattle.std.specs.Io.KnownBytes.{append_known}

-- the bytes taken are those taken before and then these; where they are told, they stay told
abbrev pub Takes : Option (List ℕ) → List ℕ → Option (List ℕ) → Type 0
Takes old bytes new = new ≡ append_known old bytes

-- the first of these bytes were taken, none or some or all
abbrev pub TakesPrefix : Option (List ℕ) → List ℕ → Option (List ℕ) → Type 0
TakesPrefix old bytes new = (n : ℕ) × (n ≤ length bytes) × Takes old (take n bytes) new
