-- A run has no first break exactly if it is within the hypothesis.
use Rattle.std.proofs.Common.{◌≡◌, ℕ, zero, suc, ◌+◌, ◌≤◌, ◌==◌, ◌&&◌, ◌↔◌, inl, inr, Bool, true, false, if◌then◌else◌, nat_lt, List, [], ◌∷◌, take, drop, Option, Some, None, count_by, refl, ap, sym, arith}
use Rattle.std.specs.Option.{option_map_or, option_or}
use Rattle.std.proofs.lemmas.Bool.{false≢true, and_parts, cases_Bool, ltb-false, le-ltb, eqb-true}
use Rattle.std.proofs.lemmas.List.Elements.{All-nil, All-cons, All-head, All-tail}
use Rattle.cany_base.specs.declared.class.Class.TheVariants.{Rha}
use Rattle.cany_base.specs.declared.slot_note.SlotNote.{SlotNote}
use Rattle.cany_base.specs.Frame.{FrameParts}
use Rattle.cany_base.specs.Params.{Parameters}
use Rattle.cany_model.specs.declared.breaks.Break.{Break}
use Rattle.cany_model.specs.declared.breaks.BreakKind.{BreakKind}
use Rattle.cany_model.specs.declared.breaks.BreakKind.TheVariants as kind
use Rattle.cany_model.specs.Bus.Frames.{Identity, identity_of, same_class, same_identity}
use Rattle.cany_model.specs.Promises.Hypothesis.{IsWithin, is_partial, is_silent_slot, is_partial_slot_of, count_together, partial_slots, error_slots, omits_too_often, break_at, break_in, first_break}
use Rattle.cany_model.specs.Bus.Slot.{carried}
use Rattle.cany_model.proofs.Among.{count-no, count-grows}
use Rattle.cany_model.proofs.Bus.Identities.{same_identity-true}

-- ---- what counts together counts the same

abbrev by_class : Bool → Identity → Identity → Bool
by_class rha x y = if rha then same_class y.class Rha && x.number == y.number else same_identity x y

together_rha : (x y z : Identity) → same_class x.class Rha ≡ true → by_class true x y ≡ true → count_together x z ≡ count_together y z
unfolding count_together
together_rha x y z rha h =
    let both = and_parts (same_class y.class Rha) (x.number == y.number) h in
    let number : x.number ≡ y.number = eqb-true x.number y.number both.1 in
    rw (rha, both.0) (ap (λ n. same_class z.class Rha && n == z.number) number)

together_other : (x y z : Identity) → by_class false x y ≡ true → count_together x z ≡ count_together y z
together_other x y z h = ap (λ w. count_together w z) (same_identity-true x y h)

together_same : (x y z : Identity) → count_together x y ≡ true → count_together x z ≡ count_together y z
unfolding count_together
together_same x y z h = elim (cases_Bool (same_class x.class Rha)) [
  | inl rha ↦ together_rha x y z rha (rw rha at h)
  | inr other ↦ together_other x y z (rw other at h)
]

partial_same : (x y : Identity) (trace : List SlotNote) → count_together x y ≡ true → partial_slots x trace ≡ partial_slots y trace
partial_same x y trace h =
    let e : (z : Identity) → count_together x z ≡ count_together y z = λ z. together_same x y z h in
    λ i. count_by (λ note. option_map_or (λ f. e (identity_of f) i) note.frame false && is_partial note.verdict) trace

-- ---- a chain of tests

first_none : {A : Type 0} (a b : Option A) → option_or a b ≡ None → (a ≡ None) × (b ≡ None)
first_none None b h = (refl, h)
first_none (Some x) b h = absurd (cc)

test_none : {A : Type 0} (b : Bool) (x : A) (rest : Option A) → (if b then Some x else rest) ≡ None → (b ≡ false) × (rest ≡ None)
test_none true x rest h = absurd (cc)
test_none false x rest h = (refl, h)

no_kind : (slot : ℕ) (what : Option BreakKind) → break_in slot what ≡ None → what ≡ None
no_kind slot None h = refl
no_kind slot (Some what) h = absurd (cc)

-- ---- the newest slot

-- the newest slot breaks no clause
record IsSound (p : Parameters) (note : SlotNote) (before : List SlotNote) : Type 0 where
  silent : is_silent_slot note ≡ false
  omit : omits_too_often p note before ≡ false
  errors : error_slots (take (p.bound + p.lag) (note ∷ before)) ≤ p.errors

sound_from_none : (p : Parameters) (note : SlotNote) (before : List SlotNote) → break_at p note before ≡ None → IsSound p note before
unfolding break_at
sound_from_none p note before h =
    let first = test_none (is_silent_slot note) kind.Silent _ h in
    let second = test_none (omits_too_often p note before) kind.Omit _ first.1 in
    let third = test_none (nat_lt p.errors (error_slots (take (p.bound + p.lag) (note ∷ before)))) kind.Errors None second.1 in
    record { silent = first.0; omit = second.0; errors = ltb-false p.errors (error_slots (take (p.bound + p.lag) (note ∷ before))) third.0 }

none_from_sound : (p : Parameters) (note : SlotNote) (before : List SlotNote) → IsSound p note before → break_at p note before ≡ None
unfolding break_at
none_from_sound p note before h =
    rw (h.silent, h.omit, le-ltb p.errors (error_slots (take (p.bound + p.lag) (note ∷ before))) h.errors) refl

-- ---- from a run within the hypothesis

within_before : (p : Parameters) (note : SlotNote) (before : List SlotNote) → IsWithin p (note ∷ before) → IsWithin p before
within_before p note before h = record {
  silent = All-tail (λ n. is_silent_slot n ≡ false) note before h.silent;
  omit = λ x. omega (arith, h.omit x, count-grows (is_partial_slot_of x) note before);
  errors = λ age. h.errors (suc age);
}

omit_test : (p : Parameters) (trace : List SlotNote) (frame : Option FrameParts) → ((x : Identity) → partial_slots x trace ≤ p.omit)
    → option_map_or (λ f. nat_lt p.omit (partial_slots (identity_of f) trace)) frame false ≡ false
omit_test p trace None few = refl
omit_test p trace (Some f) few = le-ltb p.omit (partial_slots (identity_of f) trace) (few (identity_of f))

within_sound : (p : Parameters) (note : SlotNote) (before : List SlotNote) → IsWithin p (note ∷ before) → IsSound p note before
within_sound p note before h = record {
  silent = All-head (λ n. is_silent_slot n ≡ false) note before h.silent;
  omit = omit_test p (note ∷ before) note.frame h.omit;
  errors = h.errors 0;
}

none_from_within : (p : Parameters) (trace : List SlotNote) → IsWithin p trace → first_break p trace ≡ None
unfolding first_break
none_from_within p [] h = refl
none_from_within p (note ∷ before) h =
    rw (none_from_within p before (within_before p note before h), none_from_sound p note before (within_sound p note before h)) refl

-- ---- to a run within the hypothesis

omit_here : (p : Parameters) (trace : List SlotNote) (x : Identity) (note : SlotNote) → is_partial_slot_of x note ≡ true
    → carried (λ f. nat_lt p.omit (partial_slots (identity_of f) trace)) note ≡ false → partial_slots x trace ≤ p.omit
omit_here p trace x note partial few = go note.frame (and_parts (carried (λ f. count_together x (identity_of f)) note) (is_partial note.verdict) partial).0 few
  where
    go : (frame : Option FrameParts) → option_map_or (λ f. count_together x (identity_of f)) frame false ≡ true
        → option_map_or (λ f. nat_lt p.omit (partial_slots (identity_of f) trace)) frame false ≡ false → partial_slots x trace ≤ p.omit
    go None counts few = absurd (false≢true counts)
    go (Some f) counts few = omega (arith, ltb-false p.omit (partial_slots (identity_of f) trace) few, partial_same x (identity_of f) trace counts)

omit_more : (p : Parameters) (note : SlotNote) (before : List SlotNote) → IsSound p note before → IsWithin p before → (x : Identity)
    → partial_slots x (note ∷ before) ≤ p.omit
omit_more p note before sound h x = elim (cases_Bool (is_partial_slot_of x note)) [
  | inl partial ↦ omit_here p (note ∷ before) x note partial sound.omit
  | inr other ↦ omega (arith, h.omit x, count-no (is_partial_slot_of x) note before other)
]

errors_more : (p : Parameters) (note : SlotNote) (before : List SlotNote) → IsSound p note before → IsWithin p before → (age : ℕ)
    → error_slots (take (p.bound + p.lag) (drop age (note ∷ before))) ≤ p.errors
errors_more p note before sound h zero = sound.errors
errors_more p note before sound h (suc age) = h.errors age

within_more : (p : Parameters) (note : SlotNote) (before : List SlotNote) → IsSound p note before → IsWithin p before → IsWithin p (note ∷ before)
within_more p note before sound h = record {
  silent = All-cons (λ n. is_silent_slot n ≡ false) note before sound.silent h.silent;
  omit = omit_more p note before sound h;
  errors = errors_more p note before sound h;
}

within_opening : (p : Parameters) → IsWithin p []
within_opening p = record {
  silent = All-nil (λ n. is_silent_slot n ≡ false);
  omit = λ x. omega arith;
  errors = λ age. empty_window (p.bound + p.lag) age;
}
  where
    empty_window : (w age : ℕ) → error_slots (take w (drop age [])) ≤ p.errors
    empty_window zero age = omega arith
    empty_window (suc w) zero = omega arith
    empty_window (suc w) (suc age) = omega arith

pub within_from_none : (p : Parameters) (trace : List SlotNote) → first_break p trace ≡ None → IsWithin p trace
unfolding first_break
within_from_none p [] h = within_opening p
within_from_none p (note ∷ before) h =
    let both = first_none (first_break p before) _ h in
    within_more p note before (sound_from_none p note before (no_kind note.slot (break_at p note before) both.1)) (within_from_none p before both.0)

pub first_break_exact : (p : Parameters) (trace : List SlotNote) → (first_break p trace ≡ None) ↔ IsWithin p trace
first_break_exact p trace = (within_from_none p trace, none_from_within p trace)

-- a break stays the first as the run goes on
pub first_break_stays : (p : Parameters) (note : SlotNote) (before : List SlotNote) (b : Break) → first_break p before ≡ Some b
    → first_break p (note ∷ before) ≡ Some b
unfolding first_break
first_break_stays p note before b h = rw h refl

named_of : (slot : ℕ) (what : Option BreakKind) (b : Break) → break_in slot what ≡ Some b → b.slot ≡ slot
named_of slot None b h = absurd (cc)
named_of slot (Some what) b h =
    let same : record { kind = what; slot = slot } ≡ b = cc in
    sym (ap (λ (k : Break). k.slot) same)

-- a break that is new has the number of the newest slot
pub first_break_named : (p : Parameters) (note : SlotNote) (before : List SlotNote) (b : Break) → first_break p before ≡ None
    → first_break p (note ∷ before) ≡ Some b → b.slot ≡ note.slot
unfolding first_break
first_break_named p note before b none h = named_of note.slot (break_at p note before) b (rw none at h)
