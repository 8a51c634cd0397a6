-- What is seen of a source and of a sink in memory.
use Rattle.std.specs.Prelude.{ℕ, List, Contains}
use Rattle.cany_io.specs.Faults.{next_count}

-- the bytes left, the calls that are to fail, how many calls were made, and how many of them failed
pub record SourceState : Type 0 where
  pub left : List ℕ
  pub failing : List ℕ
  pub calls : ℕ
  pub faults : ℕ

-- the bytes taken, the calls that are to fail, how many bytes there is room for in all, how many
-- calls were made, and how many of them failed
pub record SinkState : Type 0 where
  pub taken : List ℕ
  pub failing : List ℕ
  pub room : ℕ
  pub calls : ℕ
  pub faults : ℕ

-- the call after so many is one of those that are to fail, counted from 1
abbrev pub FailsNext : List ℕ → ℕ → Type 0
FailsNext failing calls = Contains failing (next_count calls)
