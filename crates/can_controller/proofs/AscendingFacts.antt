-- Lists of frames that ascend by a number of a frame.
use Rattle.std.proofs.Common.{◌≡◌, ℕ, zero, suc, ◌<◌, ◌≤◌, Bool, true, false, List, [], ◌∷◌, length, take, drop, get_or, set, filter, cond, ap, arith}
use Rattle.std.specs.Prelude.{All, insert}
use Rattle.std.proofs.lemmas.List.Elements.{All-nil, All-cons, All-head, All-tail, All-append, All-set, All-take, All-drop, All-weaker, All-filter}
use Rattle.cany_base.specs.Frame.{FrameParts}
use Rattle.can_controller.specs.Waiting.{IsAscendingBy}

abbrev pub AllBelow : (FrameParts → ℕ) → ℕ → List FrameParts → Type 0
AllBelow number n frames = All (λ f. number f < n) frames

abbrev pub AllAbove : (FrameParts → ℕ) → ℕ → List FrameParts → Type 0
AllAbove number n frames = All (λ f. n < number f) frames

module _ (number : FrameParts → ℕ) where
  -- those up to a frame are below what it is below
  pub below_to : (n : ℕ) (xs : List FrameParts) (i : ℕ) (g : FrameParts) → IsAscendingBy number xs → i < length xs → g ≡ get_or xs i g → number g < n
      → AllBelow number n (take (suc i) xs)
  below_to n [] i g up within is less = absurd (omega arith)
  below_to n (x ∷ xs) zero g up within is less =
      All-cons (λ f. number f < n) x [] (let e : number g ≡ number x = ap number is in omega arith) (All-nil (λ f. number f < n))
  below_to n (x ∷ xs) (suc i) g up within is less =
      let there : i < length xs = omega arith in
      let over : number x < number (get_or xs i g) = up.0 i g there in
      let e : number g ≡ number (get_or xs i g) = ap number is in
      All-cons (λ f. number f < n) x (take (suc i) xs) (omega arith) (below_to n xs i g up.1 there is less)

  -- those from a frame on are above what it is above
  pub above_from : (n : ℕ) (xs : List FrameParts) (i : ℕ) (g : FrameParts) → IsAscendingBy number xs → i < length xs → g ≡ get_or xs i g → n < number g
      → AllAbove number n (drop i xs)
  above_from n [] i g up within is more = absurd (omega arith)
  above_from n (x ∷ xs) zero g up within is more =
      let e : number g ≡ number x = ap number is in
      let here : n < number x = omega arith in
      All-cons (λ f. n < number f) x xs here
      (All-weaker (λ f. number x < number f) (λ f. n < number f) (λ f over. omega arith) xs up.0)
  above_from n (x ∷ xs) (suc i) g up within is more = above_from n xs i g up.1 (omega arith) is more

  pub ascending-filter : (p : FrameParts → Bool) (xs : List FrameParts) → IsAscendingBy number xs → IsAscendingBy number (filter p xs)
  ascending-filter p [] up = up
  ascending-filter p (x ∷ xs) up =
      let rest : IsAscendingBy number (filter p xs) = ascending-filter p xs up.1 in
      elim (p x) as (λ b. IsAscendingBy number (cond b (x ∷ filter p xs) (filter p xs))) [
        | true ↦ (All-filter p (λ g. number x < number g) xs up.0, rest)
        | false ↦ rest
      ]

  pub ascending-insert : (f : FrameParts) (xs : List FrameParts) (i : ℕ) → IsAscendingBy number xs → i ≤ length xs
      → AllBelow number (number f) (take i xs) → AllAbove number (number f) (drop i xs) → IsAscendingBy number (insert xs i f)
  ascending-insert f [] zero up within below above = (All-nil (λ g. number f < number g), tt)
  ascending-insert f [] (suc i) up within below above = absurd (omega arith)
  ascending-insert f (x ∷ xs) zero up within below above = (above, up)
  ascending-insert f (x ∷ xs) (suc i) up within below above =
      let over = λ (g : FrameParts). number x < number g in
      let here : number x < number f = All-head (λ g. number g < number f) x (take i xs) below in (
        All-append over (take i xs) (f ∷ drop i xs) (All-take over i xs up.0) (All-cons over f (drop i xs) here (All-drop over i xs up.0)),
        ascending-insert f xs i up.1 (omega arith) (All-tail (λ g. number g < number f) x (take i xs) below) above,
      )

  pub ascending-set : (f : FrameParts) (xs : List FrameParts) (i : ℕ) → IsAscendingBy number xs → i < length xs
      → number (get_or xs i f) ≡ number f → IsAscendingBy number (set xs i f)
  ascending-set f [] i up within same = up
  ascending-set f (x ∷ xs) zero up within same =
      (All-weaker (λ g. number x < number g) (λ g. number f < number g) (λ g over. omega arith) xs up.0, up.1)
  ascending-set f (x ∷ xs) (suc i) up within same =
      let there : i < length xs = omega arith in
      let over : number x < number (get_or xs i f) = up.0 i f there in
      (All-set (λ g. number x < number g) xs i f (omega arith) up.0, ascending-set f xs i up.1 there same)
