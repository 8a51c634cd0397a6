-- What is kept of a run for its first break, and the run that it stands for.
use Rattle.std.specs.Prelude.{◌≡◌, ℕ, ◌+◌, ◌&&◌, Bool, true, List, Option, None, length, take, count_by}
use Rattle.cany_base.specs.declared.slot_note.SlotNote.{SlotNote}
use Rattle.cany_base.specs.Params.{Parameters}
use Rattle.cany_model.specs.declared.breaks.Break.{Break}
use Rattle.cany_model.specs.Bus.Frames.{Identity}
use Rattle.cany_model.specs.Promises.Hypothesis.{is_partial, partial_slots, first_break}
use Rattle.cany_model.specs.Bus.Slot.{carried}
use Rattle.can_fault.specs.declared.counts.Counted.{Counted}
use Rattle.can_fault.specs.Counted.{counted_of}
use Rattle.can_fault.specs.Counts.{partials_of}
use Rattle.can_fault.specs.Window.{IsNumbered, error_places}

-- whether the slot carried a frame and was Partial
abbrev pub is_partial_slot : SlotNote → Bool
is_partial_slot note = carried (λ f. true) note && is_partial note.verdict

-- what a tally keeps: of the slots noted their number, that of the Partial ones and the first
-- break, and while there is none how many Partial slots each frame met, and the newest slots of
-- errors. `rules` is the room for Partial slots
pub record TallyParts : Type 0 where
  pub params : Parameters
  pub rules : ℕ
  pub slots : ℕ
  pub partials : ℕ
  pub first : Option Break
  pub counts : List (Counted × ℕ)
  pub recent : List ℕ

-- the tally has noted this run, newest slot first
pub record IsTallyOf (trace : List SlotNote) (tally : TallyParts) : Type 0 where
  pub numbered : IsNumbered trace
  pub slots : tally.slots ≡ length trace
  pub partials : tally.partials ≡ count_by is_partial_slot trace
  pub first : tally.first ≡ first_break tally.params trace
  pub counts : tally.first ≡ None → (x : Identity) → partials_of tally.counts (counted_of x) ≡ partial_slots x trace
  pub recent : tally.first ≡ None → tally.recent ≡ take (tally.params.errors + 1) (error_places trace)
