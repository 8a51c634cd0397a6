-- What is kept of a run that breaks no clause of the hypothesis.
use Rattle.std.specs.Prelude.{◌≡◌, ◌+◌, List, None, take}
use Rattle.cany_base.specs.declared.slot_note.SlotNote.{SlotNote}
use Rattle.cany_base.specs.Params.{Parameters}
use Rattle.cany_model.specs.Bus.Frames.{Identity}
use Rattle.cany_model.specs.Promises.Hypothesis.{partial_slots, first_break}
use Rattle.can_fault.specs.declared.breaks.Breaks.{Breaks}
use Rattle.can_fault.specs.Counted.{counted_of}
use Rattle.can_fault.specs.Counts.{partials_of}
use Rattle.can_fault.specs.Window.{IsNumbered, error_places}

pub record IsKeptOf (p : Parameters) (trace : List SlotNote) (kept : Breaks) : Type 0 where
  pub numbered : IsNumbered trace
  pub unbroken : first_break p trace ≡ None
  pub omit : kept.omit ≡ p.omit
  pub errors : kept.window.errors ≡ p.errors
  pub span : kept.window.span ≡ p.bound + p.lag
  pub counts : (x : Identity) → partials_of kept.counts.items (counted_of x) ≡ partial_slots x trace
  pub recent : kept.window.recent ≡ take (p.errors + 1) (error_places trace)

-- the limits stay
pub record HasLimitsOf (old new : Breaks) : Type 0 where
  pub omit : new.omit ≡ old.omit
  pub errors : new.window.errors ≡ old.window.errors
  pub span : new.window.span ≡ old.window.span
