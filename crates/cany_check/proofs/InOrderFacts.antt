-- A list that ascends has each element of the list that it was made of.
use Rattle.std.proofs.Common.{◌≡◌, Bool, false, List, [], ◌∷◌, refl, sym, subst, inl, inr}
use Rattle.std.specs.List.{AllByRecursion}
use Rattle.std.proofs.lemmas.Bool.{cases_Bool}
use Rattle.cany_model.proofs.Among.{Among}
use Rattle.cany_check.specs.InOrder.{ascending, put_once}

module _ {X : Type 0} (is_before : X → X → Bool) (same : (x y : X) → is_before x y ≡ false → is_before y x ≡ false → x ≡ y) where
  put_has : (x : X) (ys : List X) → Among (λ z. z ≡ x) (put_once is_before x ys)
  unfolding put_once
  put_has x [] = inl refl
  put_has x (y ∷ ys) = elim (cases_Bool (is_before x y)) [
    | inl here ↦ rw here (inl refl)
    | inr later ↦ elim (cases_Bool (is_before y x)) [
      | inl after ↦ rw (later, after) (inr (put_has x ys))
      | inr equal ↦ rw (later, equal) (inl (sym (same x y later equal)))
    ]
  ]

  put_keeps : (x z : X) (ys : List X) → Among (λ w. w ≡ z) ys → Among (λ w. w ≡ z) (put_once is_before x ys)
  unfolding put_once
  put_keeps x z [] h = absurd h
  put_keeps x z (y ∷ ys) h = elim (cases_Bool (is_before x y)) [
    | inl here ↦ rw here (inr h)
    | inr later ↦ elim (cases_Bool (is_before y x)) [
      | inl after ↦ rw (later, after) (elim h [ inl e ↦ inl e | inr rest ↦ inr (put_keeps x z ys rest) ])
      | inr equal ↦ rw (later, equal) h
    ]
  ]

  pub among_ascending : (x : X) (xs : List X) → Among (λ z. z ≡ x) xs → Among (λ z. z ≡ x) (ascending is_before xs)
  unfolding ascending
  among_ascending x [] h = absurd h
  among_ascending x (y ∷ xs) (inl e) = subst (λ w. Among (λ z. z ≡ w) (put_once is_before y (ascending is_before xs))) e (put_has y (ascending is_before xs))
  among_ascending x (y ∷ xs) (inr h) = put_keeps y x (ascending is_before xs) (among_ascending x xs h)

-- what holds of each element holds of each of the list that ascends
module _ {X : Type 0} (is_before : X → X → Bool) (P : X → Type 0) where
  put_each : (x : X) (ys : List X) → P x → AllByRecursion P ys → AllByRecursion P (put_once is_before x ys)
  unfolding put_once
  put_each x [] p h = (p, tt)
  put_each x (y ∷ ys) p h = elim (cases_Bool (is_before x y)) [
    | inl here ↦ rw here (p, h)
    | inr later ↦ elim (cases_Bool (is_before y x)) [
      | inl after ↦ rw (later, after) (h.0, put_each x ys p h.1)
      | inr equal ↦ rw (later, equal) h
    ]
  ]

  pub each_ascending : (xs : List X) → AllByRecursion P xs → AllByRecursion P (ascending is_before xs)
  unfolding ascending
  each_ascending [] h = tt
  each_ascending (x ∷ xs) h = put_each x (ascending is_before xs) h.0 (each_ascending xs h.1)
