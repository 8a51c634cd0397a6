-- The first slot that carried a frame.
use Rattle.std.proofs.Common.{◌≡◌, ℕ, ◌<◌, ◌≤◌, ◌⊎◌, inl, inr, Bool, true, false, if◌then◌else◌, List, [], ◌∷◌, length, Option, Some, None, refl, ap, sym, ◌∙◌, arith}
use Rattle.std.specs.List.{AllByRecursion}
use Rattle.std.specs.Option.{option_or}
use Rattle.std.proofs.lemmas.Bool.{false≢true}
use Rattle.std.proofs.lemmas.Option.{same_Some}
use Rattle.cany_base.specs.declared.slot_note.SlotNote.{SlotNote}
use Rattle.cany_base.specs.Frame.{FrameParts}
use Rattle.cany_model.specs.Bus.Frames.{Identity, identity_of, is_of}
use Rattle.cany_model.specs.Bus.Slot.{carried}
use Rattle.cany_model.specs.Promises.FirstSlots.{first_carried, slot_of}
use Rattle.cany_model.proofs.Among.{Among}
use Rattle.cany_model.proofs.Bus.Carried.{Carries}
use Rattle.cany_model.proofs.Bus.Identities.{same_identity-from, same_identity-true}
use Rattle.cany_model.proofs.Bus.Seen.{Numbered}

some_is_none : (o : Option ℕ) (n : ℕ) → o ≡ Some n → o ≡ None → ⊥
some_is_none o n some none = absurd (cc)

-- ---- one slot

carried_slot : (x : Identity) (note : SlotNote) → Carries x note → slot_of x note ≡ Some note.slot
carried_slot x note c = rw (test x note c) refl
  where
    test : (x : Identity) (note : SlotNote) → Carries x note → carried (is_of x) note ≡ true
    test x note c = rw c.frame (same_identity-from x (identity_of c.what) c.identity)

slot_carried : (x : Identity) (note : SlotNote) (first : ℕ) → slot_of x note ≡ Some first → Carries x note × (note.slot ≡ first)
slot_carried x note first h = by_frame note.frame refl (carried (is_of x) note) refl h
  where
    by_frame : (o : Option FrameParts) → note.frame ≡ o → (b : Bool) → carried (is_of x) note ≡ b → (if b then Some note.slot else None) ≡ Some first
        → Carries x note × (note.slot ≡ first)
    by_frame o frame false test e = absurd (cc)
    by_frame None frame true test e = absurd (false≢true (rw frame at test))
    by_frame (Some f) frame true test e =
        (record { what = f; frame = frame; identity = same_identity-true x (identity_of f) (rw frame at test) }, same_Some note.slot first e)

-- ---- a trace

-- the first of a longer trace is that of the slots before, or the newest slot
first_cases : (x : Identity) (note : SlotNote) (before : List SlotNote) (first : ℕ) → first_carried x (note ∷ before) ≡ Some first
    → (first_carried x before ≡ Some first) ⊎ ((first_carried x before ≡ None) × (slot_of x note ≡ Some first))
unfolding first_carried
first_cases x note before first h = by_earlier (first_carried x before) refl
  where
    by_earlier : (o : Option ℕ) → first_carried x before ≡ o
        → (first_carried x before ≡ Some first) ⊎ ((first_carried x before ≡ None) × (slot_of x note ≡ Some first))
    by_earlier (Some earlier) e = inl (e ∙ sym (ap (λ o. option_or o (slot_of x note)) e) ∙ h)
    by_earlier None e = inr (e, sym (ap (λ o. option_or o (slot_of x note)) e) ∙ h)

-- a trace that carried the frame has a first slot that did
pub carried_has_first : (x : Identity) (trace : List SlotNote) → Among (Carries x) trace → first_carried x trace ≡ None → ⊥
unfolding first_carried
carried_has_first x [] h none = h
carried_has_first x (note ∷ before) h none = by_earlier (λ earlier e. carried_has_first x before earlier e) (first_carried x before) refl
  where
    rest : {o : Option ℕ} → first_carried x before ≡ o → option_or o (slot_of x note) ≡ None
    rest e = sym (ap (λ o. option_or o (slot_of x note)) e) ∙ none

    by_earlier : (Among (Carries x) before → first_carried x before ≡ None → ⊥) → (o : Option ℕ) → first_carried x before ≡ o → ⊥
    by_earlier ih (Some earlier) e = some_is_none (Some earlier) earlier refl (rest e)
    by_earlier ih None e = elim h [
      | inl now ↦ some_is_none (slot_of x note) note.slot (carried_slot x note now) (rest e)
      | inr earlier ↦ ih earlier e
    ]

-- a slot carried it
pub first_some : (x : Identity) (trace : List SlotNote) (first : ℕ) → first_carried x trace ≡ Some first → Among (Carries x) trace
unfolding first_carried
first_some x [] first h = absurd (cc)
first_some x (note ∷ before) first h = elim (first_cases x note before first h) [
  | inl earlier ↦ inr (first_some x before first earlier)
  | inr now ↦ inl (slot_carried x note first now.1).0
]

first_below : (x : Identity) (trace : List SlotNote) → Numbered trace → (first : ℕ) → first_carried x trace ≡ Some first → first < length trace
unfolding first_carried
first_below x [] numbered first h = absurd (cc)
first_below x (note ∷ before) numbered first h = elim (first_cases x note before first h) [
  | inl earlier ↦ let below = first_below x before numbered.1 first earlier in omega (arith, below)
  | inr now ↦ let same = (slot_carried x note first now.1).1 in omega (arith, same, numbered.0)
]

none_carries : (x : Identity) (first : ℕ) (trace : List SlotNote) → (Among (Carries x) trace → ⊥)
    → AllByRecursion (λ note. Carries x note → first ≤ note.slot) trace
none_carries x first [] never = tt
none_carries x first (note ∷ before) never = (λ c. absurd (never (inl c)), none_carries x first before (λ h. never (inr h)))

-- and none before it
pub first_is_first : (x : Identity) (trace : List SlotNote) → Numbered trace → (first : ℕ) → first_carried x trace ≡ Some first
    → AllByRecursion (λ note. Carries x note → first ≤ note.slot) trace
unfolding first_carried
first_is_first x [] numbered first h = tt
first_is_first x (note ∷ before) numbered first h = elim (first_cases x note before first h) [
  | inl earlier ↦
      let below = first_below x before numbered.1 first earlier in
      (λ c. omega (arith, below, numbered.0), first_is_first x before numbered.1 first earlier)
  | inr now ↦
      let same = (slot_carried x note first now.1).1 in
      (λ c. omega (arith, same), none_carries x first before (λ h. carried_has_first x before h now.0))
]
