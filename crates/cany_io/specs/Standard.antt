-- What is seen of an adapter to one of std's streams.
use Rattle.std.specs.Prelude.{ℕ}

-- the stream, and how many of its calls failed
pub record Adapter (D : Type 0) : Type 0 where
  pub stream : D
  pub faults : ℕ
