-- What a tally has noted, after one more slot.
use Rattle.std.proofs.Common.{◌≡◌, ℕ, ◌+◌, ◌&&◌, true, false, List, [], ◌∷◌, ◌++◌, Option, Some, None, refl, ap, sym, ◌∙◌, arith, length, take, if◌then◌else◌}
use Rattle.std.specs.Prelude.{All}
use Rattle.std.specs.List.{count_by}
use Rattle.std.specs.Option.{option_map_or}
use Rattle.std.proofs.lemmas.List.Elements.{All-head, All-tail}
use Rattle.cany_base.specs.declared.slot_note.SlotNote.{SlotNote}
use Rattle.cany_model.specs.declared.breaks.Break.{Break}
use Rattle.cany_base.specs.Frame.{FrameParts}
use Rattle.cany_base.specs.Params.{Parameters}
use Rattle.cany_model.specs.Promises.Hypothesis.{first_break, is_partial, partial_slots}
use Rattle.can_fault.specs.declared.breaks.Breaks.{Breaks}
use Rattle.can_fault.specs.declared.tally.Tally.TheInside.{Inside}
use Rattle.can_fault.specs.Breaks.{IsKeptOf}
use Rattle.can_fault.specs.Tally.{IsTallyOf, is_partial_slot}
use Rattle.can_fault.specs.TallyFields.{parts_of, IsSound}
use Rattle.can_fault.specs.Window.{IsNumbered, error_places}
use Rattle.cany_model.proofs.Among.{count-cons, count-no}
use Rattle.cany_model.proofs.Promises.BreakFacts.{first_break_stays}
use Rattle.can_fault.proofs.BreakFacts.{break_idle, no_error, partials_idle, unbroken_more}
use Rattle.can_fault.proofs.WindowFacts.{places-other}

-- what is kept while nothing is broken
pub kept_of : (trace : List SlotNote) (old : Inside) → IsSound old → IsTallyOf trace (parts_of old) → old.first ≡ None → IsKeptOf old.params trace old.breaks
kept_of trace old sound run none = record {
  numbered = run.numbered;
  unbroken = sym run.first ∙ none;
  omit = sound.omit;
  errors = sound.errors;
  span = sound.span;
  counts = run.counts none;
  recent = run.recent none;
}

pub noted_run : (trace : List SlotNote) (old : Inside) (note : SlotNote) (first : Option Break) (breaks : Breaks) (one : ℕ) → IsTallyOf trace (parts_of old)
    → note.slot ≡ length trace → first ≡ first_break old.params (note ∷ trace) → (first ≡ None → IsKeptOf old.params (note ∷ trace) breaks) → one ≡ (if is_partial_slot note then 1 else 0)
    → IsTallyOf (note ∷ trace) (parts_of (record { params = old.params; rules = old.rules; newest = Some note.slot; partials = old.partials + one; first = first; breaks = breaks }))
noted_run trace old note first breaks one run slot next kept e = record {
  numbered = (slot, run.numbered);
  slots = omega arith;
  partials =
      let more : count_by is_partial_slot (note ∷ trace) ≡ (if is_partial_slot note then 1 else 0) + count_by is_partial_slot trace = count-cons is_partial_slot note trace in
      omega (arith, more, run.partials);
  first = next;
  counts = λ none. (kept none).counts;
  recent = λ none. (kept none).recent;
}

-- ---- idle slots

abbrev pub IsIdle : SlotNote → Type 0
IsIdle note = note.frame ≡ None

-- what one idle slot leaves, many leave
left_by : {X : Type 0} (what : List SlotNote → X) → ((note : SlotNote) (before : List SlotNote) → IsIdle note → what (note ∷ before) ≡ what before)
    → (idle trace : List SlotNote) → All IsIdle idle → what (idle ++ trace) ≡ what trace
left_by what one [] trace all = refl
left_by what one (note ∷ idle) trace all = one note (idle ++ trace) (All-head IsIdle note idle all) ∙ left_by what one idle trace (All-tail IsIdle note idle all)

break_left : (p : Parameters) (note : SlotNote) (before : List SlotNote) → IsIdle note → first_break p (note ∷ before) ≡ first_break p before
break_left p note before idle = by_first (first_break p before) refl
  where
    by_first : (first : Option Break) → first_break p before ≡ first → first_break p (note ∷ before) ≡ first_break p before
    by_first None e = unbroken_more p note before e (break_idle p note before idle e) ∙ sym e
    by_first (Some b) e = first_break_stays p note before b e ∙ sym e

partials_left : (note : SlotNote) (before : List SlotNote) → IsIdle note → count_by is_partial_slot (note ∷ before) ≡ count_by is_partial_slot before
partials_left note before idle =
    count-no is_partial_slot note before (ap (λ o. option_map_or (λ (f : FrameParts). true) o false && is_partial note.verdict) idle)

pub rested_run : (old : Inside) (idle trace : List SlotNote) (last : ℕ) → All IsIdle idle → IsNumbered (idle ++ trace) → length (idle ++ trace) ≡ last + 1
    → IsTallyOf trace (parts_of old) → IsTallyOf (idle ++ trace) (parts_of (record old { newest = Some last }))
rested_run old idle trace last all numbered slots run = record {
  numbered = numbered;
  slots = sym slots;
  partials = run.partials ∙ sym (left_by (count_by is_partial_slot) partials_left idle trace all);
  first = run.first ∙ sym (left_by (first_break old.params) (break_left old.params) idle trace all);
  counts = λ none x. run.counts none x ∙ sym (left_by (partial_slots x) (partials_idle x) idle trace all);
  recent = λ none.
      run.recent none
      ∙ ap (take (old.params.errors + 1)) (sym (left_by error_places (λ note before is. places-other note before (no_error note is)) idle trace all));
}
