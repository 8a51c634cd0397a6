-- One of each node, at its place: none yet, one more, and another in the place of one.
use Rattle.std.proofs.Common.{◌≡◌, ◌≢◌, ℕ, zero, suc, ◌+◌, ◌<◌, ◌⊎◌, inl, inr, List, [], ◌∷◌, ◌++◌, length, get_or, take, refl, ap, sym, subst, ◌∙◌, arith}
use Rattle.std.specs.Prelude.{Some, slice_get, slice_set}
use Rattle.std.proofs.lemmas.List.{length-append, length-set, set-get_or, take-append-le, take_all}
use Rattle.std.proofs.lemmas.Option.{get_or_from_slice_get, slice_get-get_or, slice_get_read, slice_get_within}
use Rattle.cany_world.specs.Places.{AreOfNodes}
use Rattle.cany_world.specs.World.{WorldParts}

-- ---- what stands in a list

-- what a list has after one more is put at its end
got_more : {X : Type 0} (xs : List X) (y : X) (i : ℕ) (x : X) → slice_get (xs ++ y ∷ []) i ≡ Some x → ((i ≡ length xs) × (y ≡ x)) ⊎ (slice_get xs i ≡ Some x)
got_more [] y zero x at = let same : y ≡ x = cc in inl (refl, same)
got_more [] y (suc i) x at = absurd (cc)
got_more (z ∷ xs) y zero x at = inr at
got_more (z ∷ xs) y (suc i) x at = elim (got_more xs y i x at) [
  | inl last ↦ inl (ap suc last.0, last.1)
  | inr before ↦ inr before
]

-- what it has after a write
got_set : {X : Type 0} (xs : List X) (i j : ℕ) (y x : X) → slice_get (slice_set xs i y) j ≡ Some x → ((j ≡ i) × (y ≡ x)) ⊎ ((j ≢ i) × (slice_get xs j ≡ Some x))
got_set [] i j y x e = absurd (cc)
got_set (z ∷ xs) zero zero y x e = let same : y ≡ x = cc in inl (refl, same)
got_set (z ∷ xs) zero (suc j) y x e = inr (λ k. absurd (omega arith), e)
got_set (z ∷ xs) (suc i) zero y x e = inr (λ k. absurd (omega arith), e)
got_set (z ∷ xs) (suc i) (suc j) y x e = elim (got_set xs i j y x e) [
  | inl same ↦ inl (ap suc same.0, same.1)
  | inr other ↦ inr (λ k. let less : j ≡ i = omega arith in other.0 less, other.1)
]

-- what stands within a list
pub there : {X : Type 0} (xs : List X) (i : ℕ) → i < length xs → (x : X) × (slice_get xs i ≡ Some x)
there [] i h = absurd (omega arith)
there (x ∷ xs) zero h = (x, refl)
there (x ∷ xs) (suc i) h = there xs i (omega arith)

-- what stands at the place of a write, and at another
pub got_same : {X : Type 0} (xs : List X) (i : ℕ) (y x : X) → slice_get xs i ≡ Some x → slice_get (slice_set xs i y) i ≡ Some y
got_same [] i y x e = absurd (cc)
got_same (z ∷ xs) zero y x e = refl
got_same (z ∷ xs) (suc i) y x e = got_same xs i y x e

pub got_other : {X : Type 0} (xs : List X) (i j : ℕ) (y : X) → j ≢ i → slice_get (slice_set xs i y) j ≡ slice_get xs j
got_other [] i j y other = refl
got_other (z ∷ xs) zero zero y other = absurd (other refl)
got_other (z ∷ xs) zero (suc j) y other = refl
got_other (z ∷ xs) (suc i) zero y other = refl
got_other (z ∷ xs) (suc i) (suc j) y other = got_other xs i j y (λ same. other (ap suc same))

pub set_same : {X : Type 0} (xs : List X) (i : ℕ) (x : X) → slice_get xs i ≡ Some x → slice_set xs i x ≡ xs
set_same xs i x e = ap (slice_set xs i) (sym (get_or_from_slice_get xs i x x e)) ∙ set-get_or xs i x

-- what was read at a place of a slice that is this list
pub found : {X : Type 0} (xs ys : List X) (i j : ℕ) (x : X) → ys ≡ xs → j ≡ i → i < length xs → x ≡ get_or ys j x → slice_get xs i ≡ Some x
found xs ys i j x same at within is =
    slice_get_read xs (length xs) i x refl within (is ∙ ap (λ t. get_or t j x) same ∙ ap (λ k. get_or xs k x) at)

-- what stands at a place that has another name
pub stands_at : {X : Type 0} (xs : List X) (i j : ℕ) (x : X) → j ≡ i → i < length xs → slice_get xs i ≡ Some (get_or xs j x)
stands_at xs i j x at within = ap (slice_get xs) (sym at) ∙ slice_get-get_or xs j x (omega (arith, at, within))

-- what is kept of a vector whose items were written through a slice
pub written : {X : Type 0} (xs rest : List X) (n : ℕ) → length xs ≡ n → take n (xs ++ rest) ≡ xs
written xs rest n e = take-append-le n xs rest (omega (arith, e)) ∙ take_all n xs (omega (arith, e))

-- the same where one item was written
pub one_written : {X : Type 0} (xs ys rest : List X) (n i : ℕ) (x : X) → ys ≡ xs → length ys ≡ n → take n (slice_set ys i x ++ rest) ≡ slice_set xs i x
one_written {X} xs ys rest n i x same e = written (slice_set ys i x) rest n (length-set ys i x ∙ e) ∙ ap (λ (l : List X). slice_set l i x) same

-- what is read through the slice where this stands
pub read_at : {X : Type 0} (xs ys : List X) (i : ℕ) (x other : X) → ys ≡ xs → slice_get xs i ≡ Some x → get_or ys i other ≡ x
read_at {X} xs ys i x other same at = ap (λ (l : List X). get_or l i other) same ∙ get_or_from_slice_get xs i x other at

-- ---- one of each node

pub none_yet : {X : Type 0} (Is : ℕ → X → Type 0) (xs : List X) → xs ≡ [] → AreOfNodes Is 0 xs
none_yet Is xs e = subst (AreOfNodes Is 0) (sym e) (record { whole = refl; each = λ i x at. absurd (cc) })

pub one_more : {X : Type 0} (Is : ℕ → X → Type 0) (count : ℕ) (xs : List X) (y : X) → AreOfNodes Is count xs → Is count y → AreOfNodes Is (count + 1) (xs ++ y ∷ [])
one_more Is count xs y so here = record {
  whole = length-append xs (y ∷ []) ∙ ap (λ k. k + 1) so.whole;
  each = λ i x at. elim (got_more xs y i x at) [
    | inl last ↦ subst (Is i) last.1 (subst (λ k. Is k y) (sym (last.0 ∙ so.whole)) here)
    | inr before ↦ so.each i x before
  ];
}

pub one_changed : {X : Type 0} (Was Is : ℕ → X → Type 0) (count : ℕ) (xs : List X) (i : ℕ) (y : X) → AreOfNodes Was count xs → Is i y
    → ((j : ℕ) (x : X) → j ≢ i → Was j x → Is j x) → AreOfNodes Is count (slice_set xs i y)
one_changed Was Is count xs i y so here others = record {
  whole = length-set xs i y ∙ so.whole;
  each = λ j x at. elim (got_set xs i j y x at) [
    | inl same ↦ subst (Is j) same.1 (subst (λ k. Is k y) (sym same.0) here)
    | inr other ↦ others j x other.0 (so.each j x other.1)
  ];
}

-- where what stands at each place is known
pub one_each : {X : Type 0} (Is : ℕ → X → Type 0) (count : ℕ) (xs : List X) → length xs ≡ count
    → ((i : ℕ) → i < count → (x : X) × (slice_get xs i ≡ Some x) × Is i x) → AreOfNodes Is count xs
one_each Is count xs whole all = record {
  whole = whole;
  each = λ i x at.
      let here = all i (omega (arith, slice_get_within xs i x at, whole)) in
      let some : Some here.0 ≡ Some x = sym here.1 ∙ at in
      let same : here.0 ≡ x = cc in
      subst (Is i) same here.2;
}

-- what was read through a slice of those of a world
pub read_of_node : {X : Type 0} (Is : WorldParts → ℕ → X → Type 0) (u w : WorldParts) → u ≡ w → (xs ys : List X) → ys ≡ xs → AreOfNodes (Is u) u.scenario.params.nodes xs
    → (i j : ℕ) → j ≡ i → i < w.scenario.params.nodes → (x : X) → x ≡ get_or ys j x → Is w i x
read_of_node Is u w same xs ys value are i j at within x is =
    let here : i < length xs = omega (arith, within, are.whole, ap (λ (v : WorldParts). v.scenario.params.nodes) same) in
    subst (λ (v : WorldParts). Is v i x) same (are.each i x (found xs ys i j x value at here is))
