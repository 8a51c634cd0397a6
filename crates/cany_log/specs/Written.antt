-- What became of a text that was to be written to a sink.
use Rattle.std.specs.Prelude.{ℕ, ◌≤◌, List, Option, Result, OnOk, OnErr}
use Rattle.cany_io.specs.Faults.{HasRisen}
use Rattle.cany_io.specs.Sink.{Takes, TakesPrefix}
use Rattle.cany_io.specs.declared.failed.Failed.{Failed}

-- of the bytes that the sink has taken and its count of faults, before and after
pub record IsWritten (text : List ℕ) (result : Result (Unit {0}) Failed) (old new : Option (List ℕ)) (before after : ℕ) : Type 0 where
  -- all of the text was taken
  pub bytes : OnOk result (Takes old text new)
  -- in any case a prefix of it
  pub prefix : TakesPrefix old text new
  pub count : before ≤ after
  -- it fails only where the sink did
  pub failed : OnErr result (HasRisen before after)
