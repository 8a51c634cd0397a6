-- Counts of what went wrong. A count never falls, and stands still at the largest number of its
-- type.
use Rattle.std.specs.Prelude.{◌≡◌, ℕ, ◌+◌, ◌-◌, ◌^◌, ◌<◌, min}

-- the largest number of 64 bits
abbrev pub last_count : ℕ
last_count = 2 ^ 64 - 1

-- the count that follows
abbrev pub next_count : ℕ → ℕ
next_count n = min (n + 1) last_count

-- the count rose, unless it stands at the last number
abbrev pub HasRisen : ℕ → ℕ → Type 0
HasRisen old new = (new ≡ last_count → ⊥) → old < new

-- the count stayed as it was, below the last number: nothing went wrong in between
abbrev pub StandsStill : ℕ → ℕ → Type 0
StandsStill old new = (new ≡ old) × (new < last_count)
