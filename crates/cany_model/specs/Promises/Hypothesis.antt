-- The fault hypothesis: the omissions that a run may have, and the first slot at which it has more.
use Rattle.std.specs.Prelude.{ℕ, ◌+◌, ◌≤◌, ◌≡◌, ◌==◌, ◌&&◌, Bool, true, false, nat_lt, if◌then◌else◌, List, [], ◌∷◌, Option, Some, None, All, count_by, take, drop}
use Rattle.std.specs.Option.{option_or}
use Rattle.cany_base.specs.declared.class.Class.TheVariants as class
use Rattle.cany_base.specs.declared.rule.Verdict.{Verdict}
use Rattle.cany_base.specs.declared.rule.Verdict.TheVariants.{Clean, Lost, Partial, Silent}
use Rattle.cany_base.specs.declared.slot_note.SlotNote.{SlotNote}
use Rattle.cany_base.specs.Frame.{FrameParts}
use Rattle.cany_base.specs.Params.{Parameters}
use Rattle.cany_model.specs.declared.breaks.Break.{Break}
use Rattle.cany_model.specs.declared.breaks.BreakKind.{BreakKind}
use Rattle.cany_model.specs.declared.breaks.BreakKind.TheVariants as kind
use Rattle.cany_model.specs.Bus.Frames.{Identity, identity_of, same_class, same_identity}
use Rattle.cany_model.specs.Bus.Slot.{carried}

abbrev pub is_silent : Verdict → Bool
is_silent Clean = false
is_silent Lost = false
is_silent (Partial reject) = false
is_silent (Silent reject) = true

abbrev pub is_partial : Verdict → Bool
is_partial Clean = false
is_partial Lost = false
is_partial (Partial reject) = true
is_partial (Silent reject) = false

abbrev pub is_error : Verdict → Bool
is_error Clean = false
is_error Lost = true
is_error (Partial reject) = true
is_error (Silent reject) = false

-- every frame passes
abbrev pub any_frame : FrameParts → Bool
any_frame f = true

abbrev pub is_silent_slot : SlotNote → Bool
is_silent_slot note = carried any_frame note && is_silent note.verdict

abbrev pub is_error_slot : SlotNote → Bool
is_error_slot note = carried any_frame note && is_error note.verdict

-- whether the Partial slots of the two count together: those of one identity, and those of the
-- vectors of one cycle
unfoldable pub count_together : Identity → Identity → Bool
count_together x y =
    if same_class x.class class.Rha then same_class y.class class.Rha && x.number == y.number else same_identity x y

abbrev pub is_partial_slot_of : Identity → SlotNote → Bool
is_partial_slot_of x note = carried (λ f. count_together x (identity_of f)) note && is_partial note.verdict

-- the Partial slots that count for an identity
abbrev pub partial_slots : Identity → List SlotNote → ℕ
partial_slots x trace = count_by (is_partial_slot_of x) trace

-- the Lost or Partial slots that carried a frame
abbrev pub error_slots : List SlotNote → ℕ
error_slots trace = count_by is_error_slot trace

-- of the slots that ran, newest first
pub record IsWithin (p : Parameters) (trace : List SlotNote) : Type 0 where
  -- no Silent slot carried a frame
  pub silent : All (λ note. is_silent_slot note ≡ false) trace
  -- no identity, and no cycle's vectors together, met more than omit Partial slots
  pub omit : (x : Identity) → partial_slots x trace ≤ p.omit
  -- no window of bound + lag consecutive slots, or fewer, has more than errors Lost or Partial
  -- slots
  pub errors : (age : ℕ) → error_slots (take (p.bound + p.lag) (drop age trace)) ≤ p.errors

-- whether the newest slot carried a frame that met too many Partial slots by then
abbrev pub omits_too_often : Parameters → SlotNote → List SlotNote → Bool
omits_too_often p note before = carried (λ f. nat_lt p.omit (partial_slots (identity_of f) (note ∷ before))) note

-- what fails at the newest slot: in one slot silent comes first, then omit, then errors
unfoldable pub break_at : Parameters → SlotNote → List SlotNote → Option BreakKind
break_at p note before =
    if is_silent_slot note then Some kind.Silent
    else if omits_too_often p note before then Some kind.Omit
    else if nat_lt p.errors (error_slots (take (p.bound + p.lag) (note ∷ before))) then Some kind.Errors
    else None

abbrev pub break_in : ℕ → Option BreakKind → Option Break
break_in slot None = None
break_in slot (Some what) = Some (record { kind = what; slot = slot })

-- the first slot at which a clause fails
unfoldable pub first_break : Parameters → List SlotNote → Option Break
first_break p [] = None
first_break p (note ∷ before) = option_or (first_break p before) (break_in note.slot (break_at p note before))
