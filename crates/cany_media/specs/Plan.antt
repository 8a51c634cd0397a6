-- What is planned for two lines: which line is not whole, from which slot to which, and how.
use Rattle.std.specs.Prelude.{◌<◌, ◌≤◌, ◌==◌, ◌&&◌, ℕ, Bool, nat_le, List, find}
use Rattle.std.specs.Option.{option_map_or}
use Rattle.cany_media.specs.declared.line.Line.{Line}
use Rattle.cany_media.specs.declared.line.Line.TheVariants.{Whole}

pub record FaultParts : Type 0 where
  pub line : ℕ
  pub from : ℕ
  pub to : ℕ
  pub state : Line

-- the fault is one of the two lines, and does not end before it begins
pub record IsFault (fault : FaultParts) : Type 0 where
  pub line : fault.line < 2
  pub ordered : fault.from ≤ fault.to

-- whether the slot is one of the fault's
abbrev pub spans : ℕ → FaultParts → Bool
spans slot fault = nat_le fault.from slot && nat_le slot fault.to

-- whether the fault is one of this line in this slot
abbrev pub covers : ℕ → ℕ → FaultParts → Bool
covers line slot fault = fault.line == line && spans slot fault

-- how a line is in a slot: whole, where no fault covers it
abbrev pub line_at : List FaultParts → ℕ → ℕ → Line
line_at faults slot line = option_map_or (λ fault. fault.state) (find (covers line slot) faults) Whole

abbrev pub lines_at : List FaultParts → ℕ → Line × Line
lines_at faults slot = (line_at faults slot 0, line_at faults slot 1)
