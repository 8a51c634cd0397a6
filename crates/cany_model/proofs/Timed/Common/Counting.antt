-- Counts of slots in a window, by ages: at most so many where no more of them stand together, and
-- sums over names that cover them.
use Rattle.std.proofs.Common.{◌≡◌, ℕ, zero, suc, ◌+◌, ◌*◌, ◌<◌, ◌≤◌, inl, inr, Bool, true, false, List, [], ◌∷◌, take, drop, count_by, refl, sym, ◌∙◌, subst, arith}
use Rattle.std.proofs.lemmas.Bool.{cases_Bool, cases_eq, false≢true}
use Rattle.cany_base.specs.declared.slot_note.SlotNote.{SlotNote}
use Rattle.cany_model.proofs.Among.{count-grows, count-no, count-yes}
use Rattle.cany_model.proofs.Bus.States.{no_note, note_at}

-- the slot of this age passes the test
abbrev pub Passes : (SlotNote → Bool) → List SlotNote → ℕ → Type 0
Passes t L p = t (note_at L p) ≡ true

-- ---- no more than so many

pub at_most_0 : (t : SlotNote → Bool) (L : List SlotNote) → ((p : ℕ) → Passes t L p → ⊥) → count_by t L ≡ 0
at_most_0 t [] h = refl
at_most_0 t (x ∷ L) h = elim (cases_Bool (t x)) [
  | inl a ↦ absurd (h 0 a)
  | inr b ↦ let r = at_most_0 t L (λ p. h (suc p)) in omega (arith, r, count-no t x L b)
]

pub at_most_1 : (t : SlotNote → Bool) (L : List SlotNote) → ((p q : ℕ) → p < q → Passes t L p → Passes t L q → ⊥) → count_by t L ≤ 1
at_most_1 t [] h = omega arith
at_most_1 t (x ∷ L) h = elim (cases_Bool (t x)) [
  | inl a ↦ let r = at_most_0 t L (λ p b. h 0 (suc p) (omega arith) a b) in omega (arith, r, count-yes t x L a)
  | inr b ↦ let r = at_most_1 t L (λ p q l. h (suc p) (suc q) (omega (arith, l))) in omega (arith, r, count-no t x L b)
]

pub at_most_2 : (t : SlotNote → Bool) (L : List SlotNote) → ((p q r : ℕ) → p < q → q < r → Passes t L p → Passes t L q → Passes t L r → ⊥)
    → count_by t L ≤ 2
at_most_2 t [] h = omega arith
at_most_2 t (x ∷ L) h = elim (cases_Bool (t x)) [
  | inl a ↦ let r = at_most_1 t L (λ p q l b c. h 0 (suc p) (suc q) (omega arith) (omega (arith, l)) a b c) in omega (arith, r, count-yes t x L a)
  | inr b ↦ let r = at_most_2 t L (λ p q r l k. h (suc p) (suc q) (suc r) (omega (arith, l)) (omega (arith, k))) in omega (arith, r, count-no t x L b)
]

-- ---- an age of a window, in the trace

pub window_at : (t : SlotNote → Bool) → t no_note ≡ false → (w d p : ℕ) (T : List SlotNote) → Passes t (take w (drop d T)) p
    → (q : ℕ) × (q ≡ d + p) × (p < w) × Passes t T q
window_at t none zero d p T h = absurd (false≢true (sym none ∙ h))
window_at t none (suc w) zero p [] h = absurd (false≢true (sym none ∙ h))
window_at t none (suc w) zero zero (x ∷ T) h = (0, omega arith, omega arith, h)
window_at t none (suc w) zero (suc p) (x ∷ T) h =
    let r = window_at t none w 0 p T h in (suc r.0, omega (arith, r.1), omega (arith, r.2), r.3)
window_at t none (suc w) (suc d) p [] h = absurd (false≢true (sym none ∙ h))
window_at t none (suc w) (suc d) p (x ∷ T) h =
    let r = window_at t none (suc w) d p T h in (suc r.0, omega (arith, r.1), r.2, r.3)

pub window_back : (w d p : ℕ) (T : List SlotNote) (t : SlotNote → Bool) → p < w → Passes t T (d + p) → Passes t (take w (drop d T)) p
window_back zero d p T t l h = absurd (omega (arith, l))
window_back (suc w) zero p [] t l h = h
window_back (suc w) zero zero (x ∷ T) t l h = let e : 0 + 0 ≡ 0 = omega arith in subst (λ q. Passes t (x ∷ T) q) e h
window_back (suc w) zero (suc p) (x ∷ T) t l h =
    let e : 0 + suc p ≡ suc (0 + p) = omega arith in
    window_back w 0 p T t (omega (arith, l)) (subst (λ q. Passes t (x ∷ T) q) e h)
window_back (suc w) (suc d) p [] t l h = h
window_back (suc w) (suc d) p (x ∷ T) t l h =
    let e : suc d + p ≡ suc (d + p) = omega arith in
    window_back (suc w) d p T t l (subst (λ q. Passes t (x ∷ T) q) e h)

-- ---- sums

-- of the first n
unfoldable pub total : (ℕ → ℕ) → ℕ → ℕ
total f zero = 0
total f (suc n) = total f n + f n

pub total_le : (f g : ℕ → ℕ) → ((r : ℕ) → f r ≤ g r) → (n : ℕ) → total f n ≤ total g n
unfolding total
total_le f g le zero = omega arith
total_le f g le (suc n) = omega (arith, total_le f g le n, le n)

pub total_lt : (f g : ℕ → ℕ) → ((r : ℕ) → f r ≤ g r) → (at : ℕ) → f at < g at → (n : ℕ) → at < n → total f n < total g n
unfolding total
total_lt f g le at less zero below = absurd (omega (arith, below))
total_lt f g le at less (suc n) below = elim (cases_eq at n) [
  | inl same ↦
      let here : f n < g n = subst (λ x. f x < g x) same less in
      omega (arith, total_le f g le n, here)
  | inr other ↦ omega (arith, total_lt f g le at less n (omega (arith, below, other)), le n)
]

pub total_most : (f : ℕ → ℕ) (m : ℕ) → ((r : ℕ) → f r ≤ m) → (n : ℕ) → total f n ≤ n * m
unfolding total
total_most f m most zero = omega arith
total_most f m most (suc n) =
    let more : suc n * m ≡ n * m + m = grind arith in
    omega (arith, total_most f m most n, most n, more)

-- ---- names

-- what passes has a name below n, and of that name counts
pub cover : (t : SlotNote → Bool) (by : ℕ → SlotNote → Bool) (n : ℕ) (L : List SlotNote)
    → ((p : ℕ) → Passes t L p → (i : ℕ) × (i < n) × Passes (by i) L p) → count_by t L ≤ total (λ i. count_by (by i) L) n
cover t by n [] h = omega arith
cover t by n (x ∷ L) h =
    let rest = cover t by n L (λ p a. h (suc p) a) in
    let up : (i : ℕ) → count_by (by i) L ≤ count_by (by i) (x ∷ L) = λ i. count-grows (by i) x L in
    elim (cases_Bool (t x)) [
      | inr other ↦
          let le = total_le (λ i. count_by (by i) L) (λ i. count_by (by i) (x ∷ L)) up n in
          omega (arith, rest, le, count-no t x L other)
      | inl passes ↦
          let own = h 0 passes in
          let less : count_by (by own.0) L < count_by (by own.0) (x ∷ L) = let c = count-yes (by own.0) x L own.2 in omega (arith, c) in
          let lt = total_lt (λ i. count_by (by i) L) (λ i. count_by (by i) (x ∷ L)) up own.0 less n own.1 in
          omega (arith, rest, lt, count-yes t x L passes)
    ]

-- so the slots of a window are at most so many for each name
pub cover_window : (t : SlotNote → Bool) → t no_note ≡ false → (by : ℕ → SlotNote → Bool) (n most w d : ℕ) (T : List SlotNote)
    → ((p : ℕ) → Passes t T p → (i : ℕ) × (i < n) × Passes (by i) T p) → ((i : ℕ) → count_by (by i) (take w (drop d T)) ≤ most)
    → count_by t (take w (drop d T)) ≤ n * most
cover_window t none by n most w d T h each =
    let all = cover t by n (take w (drop d T)) (λ p a.
    let r = window_at t none w d p T a in
    let named = h r.0 r.3 in
    (named.0, named.1, window_back w d p T (by named.0) r.2 (subst (λ q. Passes (by named.0) T q) r.1 named.2))) in
    let sums = total_most (λ i. count_by (by i) (take w (drop d T))) most each n in
    omega (arith, all, sums)
