-- The newest slots of errors tell whether a window has too many of them.
use Rattle.std.proofs.Common.{◌≡◌, ℕ, zero, suc, ◌-◌, ◌<◌, ◌≤◌, Bool, true, false, inl, inr, List, [], ◌∷◌, Option, Some, None, refl, ap, sym, ◌∙◌, arith, length, take, map, if◌then◌else◌}
use Rattle.std.specs.Prelude.{nat_lt, slice_get, filter, IfSome}
use Rattle.std.specs.Option.{option_map_or}
use Rattle.std.proofs.lemmas.Bool.{cases_Bool, lt-ltb, le-ltb}
use Rattle.std.proofs.lemmas.Bool.Decides.{nat_tests}
use Rattle.cany_base.specs.declared.slot_note.SlotNote.{SlotNote}
use Rattle.cany_model.specs.Promises.Hypothesis.{is_error_slot, error_slots}
use Rattle.can_fault.specs.Window.{IsNumbered, error_places}
use Rattle.cany_model.proofs.Among.{count-cons, count-yes, count-no}

pub places-error : (note : SlotNote) (before : List SlotNote) → is_error_slot note ≡ true → error_places (note ∷ before) ≡ note.slot ∷ error_places before
places-error note before e = ap (λ b. map (λ (n : SlotNote). n.slot) (if b then note ∷ filter is_error_slot before else filter is_error_slot before)) e

pub places-other : (note : SlotNote) (before : List SlotNote) → is_error_slot note ≡ false → error_places (note ∷ before) ≡ error_places before
places-other note before e = ap (λ b. map (λ (n : SlotNote). n.slot) (if b then note ∷ filter is_error_slot before else filter is_error_slot before)) e

-- each place is below the number of slots
below_more : (n : ℕ) (o : Option ℕ) → IfSome o (λ e. e < n) → IfSome o (λ e. e < suc n)
below_more n None h = h
below_more n (Some e) h = omega arith

places_below : (trace : List SlotNote) (k : ℕ) → IsNumbered trace → IfSome (slice_get (error_places trace) k) (λ e. e < length trace)
places_below [] k h = tt
places_below (note ∷ before) zero h = elim (cases_Bool (is_error_slot note)) [
  | inl error ↦ rw (places-error note before error) (omega (arith, h.0))
  | inr other ↦ rw (places-other note before other) (below_more (length before) (slice_get (error_places before) 0) (places_below before 0 h.1))
]
places_below (note ∷ before) (suc k) h = elim (cases_Bool (is_error_slot note)) [
  | inl error ↦ rw (places-error note before error) (below_more (length before) (slice_get (error_places before) k) (places_below before k h.1))
  | inr other ↦ rw (places-other note before other) (below_more (length before) (slice_get (error_places before) (suc k)) (places_below before (suc k) h.1))
]

-- the test of the place of an error that the window may still have
abbrev in_window : ℕ → ℕ → Option ℕ → Bool
in_window n w place = option_map_or (λ e. nat_lt (n - suc e) w) place false

one_later : (n w : ℕ) (o : Option ℕ) → IfSome o (λ e. e < n) → in_window n w o ≡ in_window (suc n) (suc w) o
one_later n w None h = refl
one_later n w (Some e) h = grind (arith, nat_tests)

nothing_in_window : (n : ℕ) (o : Option ℕ) → in_window n 0 o ≡ false
nothing_in_window n None = refl
nothing_in_window n (Some e) = le-ltb (n - suc e) 0 (omega arith)

more_errors : (k n : ℕ) → nat_lt (suc k) (suc n) ≡ nat_lt k n
more_errors k n = grind (arith, nat_tests)

errors-one : (note : SlotNote) (trace : List SlotNote) → is_error_slot note ≡ true → error_slots (note ∷ trace) ≡ suc (error_slots trace)
errors-one note trace e = omega (arith, count-yes is_error_slot note trace e)

errors-same : (note : SlotNote) (trace : List SlotNote) → is_error_slot note ≡ false → error_slots (note ∷ trace) ≡ error_slots trace
errors-same note trace e = count-no is_error_slot note trace e

-- a slot that is no error
past_other : (note : SlotNote) (before : List SlotNote) (k w : ℕ) → IsNumbered (note ∷ before) → is_error_slot note ≡ false
    → nat_lt k (error_slots (take w before)) ≡ in_window (length before) w (slice_get (error_places before) k)
    → nat_lt k (error_slots (note ∷ take w before)) ≡ in_window (suc (length before)) (suc w) (slice_get (error_places (note ∷ before)) k)
past_other note before k w h other rest =
    ap (nat_lt k) (errors-same note (take w before) other) ∙ rest
    ∙ one_later (length before) w (slice_get (error_places before) k) (places_below before k h.1)
    ∙ ap (λ places. in_window (suc (length before)) (suc w) (slice_get places k)) (sym (places-other note before other))

-- a window has more than k errors exactly if the error at k, newest first, lies in it
pub errors_in_window : (trace : List SlotNote) (k w : ℕ) → IsNumbered trace → nat_lt k (error_slots (take w trace)) ≡ in_window (length trace) w (slice_get (error_places trace) k)
errors_in_window [] k zero h = le-ltb k 0 (omega arith)
errors_in_window [] k (suc w) h = le-ltb k 0 (omega arith)
errors_in_window (note ∷ before) k zero h = le-ltb k 0 (omega arith) ∙ sym (nothing_in_window (suc (length before)) (slice_get (error_places (note ∷ before)) k))
errors_in_window (note ∷ before) zero (suc w) h = elim (cases_Bool (is_error_slot note)) [
  | inl error ↦
      ap (nat_lt 0) (errors-one note (take w before) error) ∙ lt-ltb 0 (suc (error_slots (take w before))) (omega arith)
      ∙ sym (lt-ltb (suc (length before) - suc note.slot) (suc w) (omega (arith, h.0)))
      ∙ ap (λ places. in_window (suc (length before)) (suc w) (slice_get places 0)) (sym (places-error note before error))
  | inr other ↦ past_other note before 0 w h other (errors_in_window before 0 w h.1)
]
errors_in_window (note ∷ before) (suc k) (suc w) h = elim (cases_Bool (is_error_slot note)) [
  | inl error ↦
      ap (nat_lt (suc k)) (errors-one note (take w before) error) ∙ more_errors k (error_slots (take w before)) ∙ errors_in_window before k w h.1
      ∙ one_later (length before) w (slice_get (error_places before) k) (places_below before k h.1)
      ∙ ap (λ places. in_window (suc (length before)) (suc w) (slice_get places (suc k))) (sym (places-error note before error))
  | inr other ↦ past_other note before (suc k) w h other (errors_in_window before (suc k) w h.1)
]

-- a window that ends at a slot that is no error has no more errors than the one before
pub quiet_window : (note : SlotNote) (before : List SlotNote) (w : ℕ) → is_error_slot note ≡ false → error_slots (take w (note ∷ before)) ≤ error_slots (take w before)
quiet_window note before zero other = omega arith
quiet_window note before (suc w) other = omega (arith, errors-same note (take w before) other, shorter before w)
  where
    shorter : (trace : List SlotNote) (w : ℕ) → error_slots (take w trace) ≤ error_slots (take (suc w) trace)
    shorter trace zero = omega arith
    shorter [] (suc w) = omega arith
    shorter (n ∷ trace) (suc w) = omega (arith, shorter trace w, count-cons is_error_slot n (take w trace), count-cons is_error_slot n (take (suc w) trace))
