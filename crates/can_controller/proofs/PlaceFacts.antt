-- What the place of a number among ascending frames says of the frames that have it.
use Rattle.std.proofs.Common.{◌≡◌, ◌≢◌, ℕ, zero, suc, ◌<◌, ◌==◌, Bool, true, false, not, List, [], ◌∷◌, length, take, drop, get_or, filter, cond, refl, ap, sym, ◌∙◌, subst, arith}
use Rattle.std.specs.Prelude.{All, remove, Option, Some, None, is_some, slice_get, IfSome, IfNone, IsNone, ◌↔◌}
use Rattle.std.specs.List.{HoldsAt, list_any}
use Rattle.std.proofs.lemmas.Bool.Decides.{nat_tests}
use Rattle.std.proofs.lemmas.List.{take-append-drop}
use Rattle.std.proofs.lemmas.List.Elements.{All-nil, All-cons, All-head, All-tail, All-append, All-weaker}
use Rattle.std.proofs.lemmas.List.Folds.{list_any_at, list_any_none}
use Rattle.cany_base.specs.Frame.{FrameParts}
use Rattle.can_controller.specs.Waiting.{IsAscendingBy, IsPlaceOf, IsGapFor}
use Rattle.can_controller.proofs.AscendingFacts.{AllAbove}

-- a filter that keeps each element
filter_all : {X : Type 0} (p : X → Bool) (xs : List X) → All (λ x. p x ≡ true) xs → filter p xs ≡ xs
filter_all p [] all = refl
filter_all p (x ∷ xs) all =
    ap (λ b. cond b (x ∷ filter p xs) (filter p xs)) (All-head (λ y. p y ≡ true) x xs all)
    ∙ ap (λ ys. x ∷ ys) (filter_all p xs (All-tail (λ y. p y ≡ true) x xs all))

pub no_head : (xs : List FrameParts) → IsNone (slice_get xs 0) ↔ (xs ≡ [])
no_head [] = (λ e. refl, λ e. refl)
no_head (x ∷ xs) = (λ e. cc, λ e. cc)

module _ (number : FrameParts → ℕ) where
  abbrev pub is_numbered : ℕ → FrameParts → Bool
  is_numbered n f = number f == n

  abbrev pub but_numbered : ℕ → List FrameParts → List FrameParts
  but_numbered n frames = filter (λ f. not (is_numbered n f)) frames

  -- no frame of a list has the number
  abbrev pub HaveOthers : ℕ → List FrameParts → Type 0
  HaveOthers n frames = All (λ f. number f ≢ n) frames

  has_another : (n : ℕ) (f : FrameParts) → number f ≢ n → is_numbered n f ≡ false
  has_another n f other = grind (arith, nat_tests)

  has_it : (n : ℕ) (f : FrameParts) → number f ≡ n → is_numbered n f ≡ true
  has_it n f same = grind (arith, nat_tests)

  pub gap_others : (n place : ℕ) (xs : List FrameParts) → IsGapFor number n place xs → HaveOthers n xs
  gap_others n place xs gap =
      let P : FrameParts → Type 0 = λ f. number f ≢ n in
      subst (λ (ys : List FrameParts). All P ys) (take-append-drop place xs)
      (All-append P (take place xs) (drop place xs)
      (All-weaker (λ f. number f < n) P (λ f less same. omega arith) (take place xs) gap.before)
      (All-weaker (λ f. n < number f) P (λ f more same. omega arith) (drop place xs) gap.after))

  pub others_kept : (n : ℕ) (xs : List FrameParts) → HaveOthers n xs → but_numbered n xs ≡ xs
  others_kept n xs all =
      filter_all (λ f. not (is_numbered n f)) xs
      (All-weaker (λ f. number f ≢ n) (λ f. not (is_numbered n f) ≡ true) (λ f other. ap not (has_another n f other)) xs all)

  pub none_numbered : (n : ℕ) (xs : List FrameParts) → HaveOthers n xs → list_any (is_numbered n) xs ≡ false
  none_numbered n xs all =
      list_any_none (is_numbered n) xs (All-weaker (λ f. number f ≢ n) (λ f. is_numbered n f ≡ false) (λ f other. has_another n f other) xs all)

  pub above_kept : (n : ℕ) (xs : List FrameParts) → AllAbove number n xs → but_numbered n xs ≡ xs
  above_kept n xs above = others_kept n xs (All-weaker (λ f. n < number f) (λ f. number f ≢ n) (λ f more same. omega arith) xs above)

  pub drop_numbered : (n : ℕ) (x : FrameParts) (xs : List FrameParts) → number x ≡ n → but_numbered n (x ∷ xs) ≡ but_numbered n xs
  drop_numbered n x xs same = ap (λ b. cond (not b) (x ∷ but_numbered n xs) (but_numbered n xs)) (has_it n x same)

  pub keep_other : (n : ℕ) (x : FrameParts) (xs : List FrameParts) → number x ≢ n → but_numbered n (x ∷ xs) ≡ x ∷ but_numbered n xs
  keep_other n x xs other = ap (λ b. cond (not b) (x ∷ but_numbered n xs) (but_numbered n xs)) (has_another n x other)

  -- the frames after one with this number
  pub rest_above : (n : ℕ) (x : FrameParts) (xs : List FrameParts) → IsAscendingBy number (x ∷ xs) → number x ≡ n → AllAbove number n xs
  rest_above n x xs up same = All-weaker (λ f. number x < number f) (λ f. n < number f) (λ f more. omega arith) xs up.0

  -- the frames before one with this number have smaller ones
  pub earlier_below : (n : ℕ) (x : FrameParts) (xs : List FrameParts) (place : ℕ) → IsAscendingBy number (x ∷ xs) → IsPlaceOf number n (suc place) (x ∷ xs)
      → (number x < n) × IsPlaceOf number n place xs
  earlier_below n x xs place up at =
      let within : suc place < length (x ∷ xs) = at.within in
      let there : place < length xs = omega arith in
      let same : number (get_or xs place x) ≡ n = at.numbered x in
      let less : number x < number (get_or xs place x) = up.0 place x there in
      (omega arith, record { within = there; numbered = λ d. at.numbered d })

  -- the frame with this number is the only one
  pub place_removed : (n : ℕ) (xs : List FrameParts) (place : ℕ) → IsAscendingBy number xs → IsPlaceOf number n place xs → but_numbered n xs ≡ remove xs place
  place_removed n [] place up at = let within : place < 0 = at.within in absurd (omega arith)
  place_removed n (x ∷ xs) zero up at =
      let same : number x ≡ n = at.numbered x in
      drop_numbered n x xs same ∙ above_kept n xs (rest_above n x xs up same)
  place_removed n (x ∷ xs) (suc place) up at =
      let earlier = earlier_below n x xs place up at in
      keep_other n x xs (λ same. omega (arith, earlier.0, same)) ∙ ap (λ ys. x ∷ ys) (place_removed n xs place up.1 earlier.1)

  -- what holds of the frame with this number, and of those with others, holds of all
  pub holds_of_all : (P : FrameParts → Type 0) (n : ℕ) (xs : List FrameParts) (place : ℕ) → IsAscendingBy number xs → IsPlaceOf number n place xs
      → HoldsAt P xs place → ((i : ℕ) (d : FrameParts) → i < length xs → number (get_or xs i d) ≢ n → P (get_or xs i d)) → All P xs
  holds_of_all P n [] place up at here others = All-nil P
  holds_of_all P n (x ∷ xs) zero up at here others =
      let above : AllAbove number n xs = rest_above n x xs up (at.numbered x) in
      All-cons P x xs (here x) (λ i d within. others (suc i) d (omega arith) (λ same. omega (arith, same, above i d within)))
  holds_of_all P n (x ∷ xs) (suc place) up at here others =
      let earlier = earlier_below n x xs place up at in
      All-cons P x xs (others zero x (omega arith) (λ same. omega (arith, earlier.0, same)))
      (holds_of_all P n xs place up.1 earlier.1 (λ d. here d) (λ i d within. others (suc i) d (omega arith)))

  -- what a search for a number tells
  pub found_waits : (n : ℕ) (xs : List FrameParts) (o : Option ℕ) → IfSome o (λ place. IsPlaceOf number n place xs) → IfNone o (HaveOthers n xs)
      → is_some o ≡ list_any (is_numbered n) xs
  found_waits n [] (Some place) found absent = let within : place < 0 = found.within in absurd (omega arith)
  found_waits n (x ∷ xs) (Some place) found absent =
      sym (list_any_at (is_numbered n) (x ∷ xs) place x found.within (has_it n (get_or (x ∷ xs) place x) (found.numbered x)))
  found_waits n xs None found absent = sym (none_numbered n xs absent)
