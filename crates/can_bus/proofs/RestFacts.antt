-- What a stretch of idle slots adds to the bus.
use Rattle.std.proofs.Common.{◌≡◌, ℕ, zero, suc, ◌+◌, ◌≤◌, List, [], ◌∷◌, ◌++◌, length, reverse, refl, ap, sym, subst, ◌∙◌, arith, add-one}
use Rattle.std.specs.Prelude.{All, None, Some, if◌then◌else◌, min}
use Rattle.std.proofs.lemmas.List.{length-reverse}
use Rattle.std.proofs.lemmas.List.Elements.{All-nil, All-cons}
use Rattle.cany_base.specs.declared.rule.Rule.{Rule}
use Rattle.cany_base.specs.declared.slot_note.SlotNote.{SlotNote}
use Rattle.cany_base.specs.Bounded.{Bounded}
use Rattle.cany_model.specs.Bus.Frames.{Identity, is_of}
use Rattle.cany_model.specs.Bus.Slot.{attempts, carried}
use Rattle.cany_model.proofs.Among.{count-no}
use Rattle.can_fault.specs.Attempts.{count_of, greatest}
use Rattle.can_fault.specs.Rules.{IsRuledBy, is_named}
use Rattle.can_fault.specs.Tally.{IsTallyOf, TallyParts}
use Rattle.can_fault.specs.Window.{IsNumbered}
use Rattle.can_bus.specs.declared.bus.Bus.TheInside.{Inside}
use Rattle.can_bus.specs.Bus.{BusParts, Follows}
use Rattle.can_bus.specs.BusFields.{IsSound}
use Rattle.can_bus.specs.Rest.{idle_note, idle_trace}

pub length-idle_trace : (slots : ℕ) (trace : List SlotNote) → length (idle_trace slots trace) ≡ slots + length trace
unfolding idle_trace
length-idle_trace zero trace = omega arith
length-idle_trace (suc slots) trace = let before = length-idle_trace slots trace in omega (arith, before)

idle_trace-next : (slots : ℕ) (trace : List SlotNote) → idle_trace (slots + 1) trace ≡ idle_note (length (idle_trace slots trace)) ∷ idle_trace slots trace
unfolding idle_trace
idle_trace-next slots trace = rw (add-one slots) refl

-- one idle slot more
pub one_more : (slots : ℕ) (before now : List SlotNote) → now ≡ idle_trace slots before → idle_note (length now) ∷ now ≡ idle_trace (slots + 1) before
one_more slots before now e = ap (λ (t : List SlotNote). idle_note (length t) ∷ t) e ∙ sym (idle_trace-next slots before)

pub none_more : (slots : ℕ) (trace : List SlotNote) → slots ≤ 0 → trace ≡ idle_trace slots trace
unfolding idle_trace
none_more zero trace none = refl
none_more (suc slots) trace none = absurd (omega arith)

-- ---- what the bus keeps

idle_attempts : (x : Identity) (slots : ℕ) (trace : List SlotNote) → attempts x (idle_trace slots trace) ≡ attempts x trace
unfolding idle_trace
idle_attempts x zero trace = refl
idle_attempts x (suc slots) trace =
    count-no (carried (is_of x)) (idle_note (length (idle_trace slots trace))) (idle_trace slots trace) refl ∙ idle_attempts x slots trace

idle_ruled : (rules : List Rule) (slots : ℕ) (trace : List SlotNote) → IsRuledBy rules trace → IsRuledBy rules (idle_trace slots trace)
unfolding idle_trace
idle_ruled rules zero trace ruled = ruled
idle_ruled rules (suc slots) trace ruled = (tt, idle_ruled rules slots trace ruled)

pub follows_idle : (rules : List Rule) (slots : ℕ) (bus after : BusParts) → after.trace ≡ idle_trace slots bus.trace → after.attempts ≡ bus.attempts → after.rules ≡ bus.rules
    → Follows rules bus → Follows rules after
follows_idle rules slots bus after trace counts room was = record {
  counts = λ x.
      ap (λ all. count_of all x) counts ∙ was.counts x
      ∙ ap (λ n. if is_named rules x then Some (min n greatest) else None) (sym (ap (attempts x) trace ∙ idle_attempts x slots bus.trace));
  ruled = subst (IsRuledBy rules) (sym trace) (idle_ruled rules slots bus.trace was.ruled);
  room = was.room ∙ sym room;
}

-- ---- what the tally notes

-- the notes alone, newest first
abbrev idle_notes : ℕ → List SlotNote → List SlotNote
idle_notes zero trace = []
idle_notes (suc slots) trace = idle_note (length (idle_trace slots trace)) ∷ idle_notes slots trace

notes_are : (slots : ℕ) (trace : List SlotNote) → idle_notes slots trace ++ trace ≡ idle_trace slots trace
unfolding idle_trace
notes_are zero trace = refl
notes_are (suc slots) trace = ap (λ t. idle_note (length (idle_trace slots trace)) ∷ t) (notes_are slots trace)

all_idle : (slots : ℕ) (trace : List SlotNote) → All (λ note. note.frame ≡ None) (idle_notes slots trace)
all_idle zero trace = All-nil (λ note. note.frame ≡ None)
all_idle (suc slots) trace =
    All-cons (λ note. note.frame ≡ None) (idle_note (length (idle_trace slots trace))) (idle_notes slots trace) refl (all_idle slots trace)

idle_numbered : (slots : ℕ) (trace : List SlotNote) → IsNumbered trace → IsNumbered (idle_trace slots trace)
unfolding idle_trace
idle_numbered zero trace numbered = numbered
idle_numbered (suc slots) trace numbered = (refl, idle_numbered slots trace numbered)

-- a tally that noted idle slots at once has noted the longer trace
pub tally_idle : (slots last : ℕ) (trace : List SlotNote) (old new : TallyParts)
    → ((idle before : List SlotNote) → All (λ note. note.frame ≡ None) idle → IsNumbered (idle ++ before) → length (idle ++ before) ≡ last + 1 → IsTallyOf before old → IsTallyOf (idle ++ before) new)
    → length (idle_trace slots trace) ≡ last + 1 → IsTallyOf trace old → IsTallyOf (idle_trace slots trace) new
tally_idle slots last trace old new rests all was =
    let are = notes_are slots trace in
    subst (λ (t : List SlotNote). IsTallyOf t new) are
    (rests (idle_notes slots trace) trace (all_idle slots trace) (subst IsNumbered (sym are) (idle_numbered slots trace was.numbered)) (ap length are ∙ all) was)

-- ---- the bus after the stretch

module _ (slots : ℕ) (b : Inside) (trace : Bounded SlotNote) (notes : reverse trace.items ≡ idle_trace slots (reverse b.trace.items)) where
  pub length_rested : length trace.items ≡ slots + length b.trace.items
  length_rested =
      let long = ap (λ (t : List SlotNote). length t) notes ∙ length-idle_trace slots (reverse b.trace.items) in
      omega (arith, long, length-reverse trace.items, length-reverse b.trace.items)

  pub sound_rested : (tally : TallyParts) → IsSound b → trace.room ≡ b.trace.room → length b.trace.items + slots ≤ b.params.slots
      → IsTallyOf (idle_trace slots (reverse b.trace.items)) tally → tally.params ≡ b.tally.params → IsSound (record b { trace = trace; tally = tally })
  sound_rested tally sound room left run params = record {
    in_range = sound.in_range;
    tally = subst (λ (t : List SlotNote). IsTallyOf t tally) (sym notes) run;
    params = params ∙ sound.params;
    room = room ∙ sound.room;
    in_room = omega (arith, length_rested, left);
  }
