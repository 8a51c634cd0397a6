-- What an incarnation sees of a run is within the fault hypothesis where the run is.
use Rattle.std.proofs.Common.{◌≡◌, ◌+◌, ◌≤◌, ◌&&◌, inl, inr, Bool, true, false, List, [], ◌∷◌, drop, take, count_by, None, refl, ap, ◌∙◌, arith}
use Rattle.std.specs.List.{AllByRecursion}
use Rattle.std.proofs.lemmas.Bool.{both_ways, cases_Bool, false_from_ne_true}
use Rattle.std.proofs.lemmas.List.Elements.{All-from_recursion, recursion_from_All}
use Rattle.cany_base.specs.declared.slot_note.SlotNote.{SlotNote}
use Rattle.cany_base.specs.Frame.{FrameParts}
use Rattle.cany_base.specs.Params.{Parameters}
use Rattle.cany_model.specs.Bus.Frames.{Identity, identity_of}
use Rattle.cany_model.specs.Bus.History.{as_seen, seen}
use Rattle.cany_model.specs.Bus.Slot.{carried}
use Rattle.cany_model.specs.Bus.State.{Incarnation}
use Rattle.cany_model.specs.Promises.Hypothesis.{IsWithin, any_frame, count_together, error_slots, is_error, is_error_slot, is_partial, is_partial_slot_of, is_silent, is_silent_slot, partial_slots}
use Rattle.cany_model.proofs.Among.{count-grows, count-no, count-yes}
use Rattle.cany_model.proofs.Bus.Seen.{drop_seen, seen_one, take_seen}

test_seen : (p : SlotNote → Bool) → ((note : SlotNote) → note.frame ≡ None → p note ≡ false) → (inc : Incarnation) (note : SlotNote)
    → p (as_seen inc note) ≡ true → p note ≡ true
test_seen p none inc note h = (seen_one (λ n. p n ≡ true) (λ n f k. both_ways (p n) (none n f) k) inc note h).1

pub count_seen : (p : SlotNote → Bool) → ((note : SlotNote) → note.frame ≡ None → p note ≡ false) → (inc : Incarnation) (trace : List SlotNote)
    → count_by p (seen inc trace) ≤ count_by p trace
count_seen p none inc [] = omega arith
count_seen p none inc (note ∷ trace) =
    let rest = count_seen p none inc trace in
    elim (cases_Bool (p (as_seen inc note))) [
      | inl here ↦
          omega (arith, rest, count-yes p (as_seen inc note) (seen inc trace) here, count-yes p note trace (test_seen p none inc note here))
      | inr other ↦ omega (arith, rest, count-no p (as_seen inc note) (seen inc trace) other, count-grows p note trace)
    ]

uncarried : (test : FrameParts → Bool) (b : Bool) (note : SlotNote) → note.frame ≡ None → (carried test note && b) ≡ false
uncarried test b note none = rw none refl

silent_one : (inc : Incarnation) (note : SlotNote) → is_silent_slot note ≡ false → is_silent_slot (as_seen inc note) ≡ false
silent_one inc note quiet =
    false_from_ne_true (is_silent_slot (as_seen inc note))
    (λ loud. both_ways (is_silent_slot note) quiet
    (test_seen is_silent_slot (λ n none. uncarried any_frame (is_silent n.verdict) n none) inc note loud))

silent_seen : (inc : Incarnation) (trace : List SlotNote) → AllByRecursion (λ note. is_silent_slot note ≡ false) trace
    → AllByRecursion (λ note. is_silent_slot note ≡ false) (seen inc trace)
silent_seen inc [] quiet = tt
silent_seen inc (note ∷ trace) quiet = (silent_one inc note quiet.0, silent_seen inc trace quiet.1)

pub partial_seen : (x : Identity) (inc : Incarnation) (trace : List SlotNote) → partial_slots x (seen inc trace) ≤ partial_slots x trace
partial_seen x inc trace =
    count_seen (is_partial_slot_of x) (λ note none. uncarried (λ f. count_together x (identity_of f)) (is_partial note.verdict) note none) inc trace

-- what an incarnation sees of a run is within the hypothesis where the run is
pub within_seen : (p : Parameters) (inc : Incarnation) (trace : List SlotNote) → IsWithin p trace → IsWithin p (seen inc trace)
within_seen p inc trace h = record {
  silent = All-from_recursion (λ note. is_silent_slot note ≡ false) (seen inc trace)
      (silent_seen inc trace (recursion_from_All (λ note. is_silent_slot note ≡ false) trace h.silent));
  omit = λ x. omega (arith, h.omit x, partial_seen x inc trace);
  errors = λ age.
      let window : List SlotNote = take (p.bound + p.lag) (drop age trace) in
      let same : take (p.bound + p.lag) (drop age (seen inc trace)) ≡ seen inc window =
      ap (take (p.bound + p.lag)) (drop_seen age inc trace) ∙ take_seen (p.bound + p.lag) inc (drop age trace) in
      let fewer = count_seen is_error_slot (λ note none. uncarried any_frame (is_error note.verdict) note none) inc window in
      omega (arith, ap error_slots same, h.errors age, fewer);
}
