-- Draws, one after another.
use Rattle.std.proofs.Common.{◌≡◌, ℕ, zero, suc, ◌+◌, ◌<◌, ◌≤◌, inl, inr, List, [], ◌∷◌, ◌++◌, length, get_or, refl, ap, sym, subst, ◌∙◌, arith, length-append}
use Rattle.std.specs.Prelude.{All, AllPairs}
use Rattle.std.proofs.Math.Seq.{get_or-append_seam}
use Rattle.std.proofs.lemmas.Bool.{cases_lt}
use Rattle.std.proofs.lemmas.List.{get_or_append_left}
use Rattle.cany_replay.specs.Storm.{Draw, in_order}
use Rattle.rand_pcg.specs.Lcg.{Lcg}

-- what the first n draws gave, and the generator after them
abbrev pub HaveDrawn : {A : Type 0} → (ℕ → Draw A) → ℕ → Lcg → List A → Lcg → Type 0
HaveDrawn {A} draw n g xs g' = ◌≡◌ {A = List A × Lcg} (xs, g') (in_order draw n g)

pub drawn-none : {A : Type 0} (draw : ℕ → Draw A) (g : Lcg) (xs : List A) → xs ≡ [] → HaveDrawn draw 0 g xs g
unfolding in_order
drawn-none {A} draw g xs none = ap (λ (ys : List A). (ys, g)) none

-- one more
pub drawn-next : {A : Type 0} (draw : ℕ → Draw A) (n : ℕ) (g g' g'' : Lcg) (xs ys : List A) (x : A) → HaveDrawn draw n g xs g'
    → ◌≡◌ {A = A × Lcg} (x, g'') (draw n g') → ys ≡ xs ++ x ∷ [] → HaveDrawn draw (n + 1) g ys g''
unfolding in_order
drawn-next {A} draw n g g' g'' xs ys x before next more =
    let step : List A × Lcg → List A × Lcg = λ r. ((r.0 ++ (draw n r.1).0 ∷ []), (draw n r.1).1) in
    let one : suc n ≡ n + 1 = omega arith in
    let all : ◌≡◌ {A = List A × Lcg} ((xs ++ x ∷ []), g'') (in_order draw (suc n) g) = ap (λ (r : A × Lcg). ((xs ++ r.0 ∷ []), r.1)) next ∙ ap step before in
    subst (λ m. ◌≡◌ {A = List A × Lcg} (ys, g'') (in_order draw m g)) one (ap (λ (zs : List A). (zs, g'')) more ∙ all)

pub length-in_order : {A : Type 0} (draw : ℕ → Draw A) (n : ℕ) (g : Lcg) → length (in_order draw n g).0 ≡ n
unfolding in_order
length-in_order draw zero g = refl
length-in_order draw (suc n) g =
    omega (arith, length-in_order draw n g, length-append (in_order draw n g).0 ((draw n (in_order draw n g).1).0 ∷ []))

pub length-drawn : {A : Type 0} (draw : ℕ → Draw A) (n : ℕ) (g g' : Lcg) (xs : List A) → HaveDrawn draw n g xs g' → length xs ≡ n
length-drawn {A} draw n g g' xs drawn = ap (λ (r : List A × Lcg). length r.0) drawn ∙ length-in_order draw n g

-- what draw k gave
pub drawn_at : {A : Type 0} (draw : ℕ → Draw A) (n : ℕ) (g : Lcg) (k : ℕ) (d : A) → k < n
    → get_or (in_order draw n g).0 k d ≡ (draw k (in_order draw k g).1).0
unfolding in_order
drawn_at draw zero g k d inside = absurd (omega (arith, inside))
drawn_at draw (suc n) g k d inside = elim (cases_lt k n) [
  | inl below ↦
      get_or_append_left (in_order draw n g).0 ((draw n (in_order draw n g).1).0 ∷ []) d k (omega (arith, below, length-in_order draw n g))
      ∙ drawn_at draw n g k d below
  | inr past ↦
      let here : k ≡ n = omega (arith, past, inside) in
      let seam : k ≡ length (in_order draw n g).0 = omega (arith, here, length-in_order draw n g) in
      ap (λ j. get_or ((in_order draw n g).0 ++ (draw n (in_order draw n g).1).0 ∷ []) j d) seam
      ∙ get_or-append_seam (in_order draw n g).0 (draw n (in_order draw n g).1).0 [] d
      ∙ ap (λ j. (draw j (in_order draw j g).1).0) (sym here)
]

-- what holds of each draw holds of what is drawn
pub all_drawn : {A : Type 0} (P : A → Type 0) (draw : ℕ → Draw A) (n : ℕ) (g : Lcg) → ((k : ℕ) → k < n → (h : Lcg) → P (draw k h).0) → All P (in_order draw n g).0
all_drawn P draw n g law = λ k d inside.
    let below : k < n = omega (arith, inside, length-in_order draw n g) in
    subst P (sym (drawn_at draw n g k d below)) (law k below (in_order draw k g).1)

-- and what holds of each two of them
pub pairs_drawn : {A : Type 0} (R : A → A → Type 0) (draw : ℕ → Draw A) (n : ℕ) (g : Lcg)
    → ((i j : ℕ) → i < j → j < n → (h h' : Lcg) → R (draw i h).0 (draw j h').0) → AllPairs R (in_order draw n g).0
pairs_drawn {A} R draw n g law = λ i j d before inside.
    let below : j < n = omega (arith, inside, length-in_order draw n g) in
    let first : i < n = omega (arith, before, below) in
    subst (λ (x : A). R x (get_or (in_order draw n g).0 j d)) (sym (drawn_at draw n g i d first))
    (subst (R (draw i (in_order draw i g).1).0) (sym (drawn_at draw n g j d below)) (law i j before below (in_order draw i g).1 (in_order draw j g).1))

-- pairs of a list and one more element
pub pairs_more : {A : Type 0} (R : A → A → Type 0) (xs : List A) (x : A) → AllPairs R xs → All (λ y. R y x) xs → AllPairs R (xs ++ x ∷ [])
pairs_more {A} R xs x pairs last = λ i j d before inside.
    let upto : j ≤ length xs = omega (arith, inside, length-append xs (x ∷ [])) in
    let first : i < length xs = omega (arith, before, upto) in
    let at_i = get_or_append_left xs (x ∷ []) d i first in
    subst (λ (y : A). R y (get_or (xs ++ x ∷ []) j d)) (sym at_i) (elim (cases_lt j (length xs)) [
      | inl below ↦ subst (R (get_or xs i d)) (sym (get_or_append_left xs (x ∷ []) d j below)) (pairs i j d before below)
      | inr past ↦
          let here : j ≡ length xs = omega (arith, past, upto) in
          subst (R (get_or xs i d)) (sym (ap (λ k. get_or (xs ++ x ∷ []) k d) here ∙ get_or-append_seam xs x [] d)) (last i d first)
    ])
