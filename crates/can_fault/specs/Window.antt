-- The newest slots of errors.
use Rattle.std.specs.Prelude.{◌≡◌, ℕ, ◌-◌, Bool, false, List, [], ◌∷◌, length, map, filter, nat_lt, slice_get}
use Rattle.std.specs.Option.{option_map_or}
use Rattle.cany_base.specs.declared.slot_note.SlotNote.{SlotNote}
use Rattle.cany_model.specs.Promises.Hypothesis.{is_error_slot}

-- the slots kept, newest first, the number that a window may have, and the length of a window
pub record Window : Type 0 where
  pub recent : List ℕ
  pub errors : ℕ
  pub span : ℕ

-- whether the window that ends at the slot has more than it may have
abbrev pub is_crowded : Window → ℕ → Bool
is_crowded window slot = option_map_or (λ oldest. nat_lt (slot - oldest) window.span) (slice_get window.recent window.errors) false

-- the slots of a run that carried a frame and were Lost or Partial, newest first
abbrev pub error_places : List SlotNote → List ℕ
error_places trace = map (λ note. note.slot) (filter is_error_slot trace)

-- each note has the number of the slots before it
abbrev pub IsNumbered : List SlotNote → Type 0
IsNumbered [] = Unit {0}
IsNumbered (note ∷ before) = (note.slot ≡ length before) × IsNumbered before
