-- What it says of the waiting frames that they fit and ascend by identity.
use Rattle.std.proofs.Common.{◌≡◌, ◌≢◌, ℕ, zero, suc, ◌-◌, ◌^◌, ◌%◌, ◌<◌, ◌≤◌, ◌==◌, ◌⊎◌, inl, inr, Bool, true, false, not, if◌then◌else◌, List, [], ◌∷◌, length, take, drop, get_or, set, filter, cond, refl, ap, sym, ◌∙◌, arith}
use Rattle.std.specs.Prelude.{All, insert, Some, slice_get, IfSome}
use Rattle.std.specs.List.{HoldsAt, list_any}
use Rattle.std.proofs.lemmas.Bool.Decides.{nat_tests}
use Rattle.std.proofs.lemmas.List.Elements.{All-cons, All-head, All-tail}
use Rattle.cany_base.specs.declared.format.Format.{Format}
use Rattle.cany_base.specs.Frame.{FrameParts, has_incarnation, identifier_of, key_of}
use Rattle.cany_model.specs.Bus.Frames.{identity_of, same_identity, is_before}
use Rattle.cany_model.specs.Bus.Slot.{better, least_frame}
use Rattle.cany_model.specs.Bus.Waiting.{put_in_order, waits, with_frame, without}
use Rattle.can_frame.specs.Identifier.{FitsIdentifier}
use Rattle.can_frame.proofs.IdentityFacts.{key_below}
use Rattle.can_controller.specs.Waiting.{IsAscending, IsAscendingBy, IsPlaceOf, IsGapFor, identity_number}
use Rattle.can_controller.proofs.AscendingFacts.{AllBelow, AllAbove}
use Rattle.can_controller.proofs.IdentifierFacts.{apart, identity_is_identifier, loses, other_identifier, same_identity_is, wins}
use Rattle.can_controller.proofs.PlaceFacts.{HaveOthers, above_kept, but_numbered, drop_numbered, earlier_below, gap_others, holds_of_all, is_numbered, keep_other, others_kept, rest_above}

-- tests that agree on a list
filter_alike : {X : Type 0} (p q : X → Bool) (xs : List X) → All (λ x. p x ≡ q x) xs → filter p xs ≡ filter q xs
filter_alike p q [] all = refl
filter_alike p q (x ∷ xs) all =
    ap (λ b. cond b (x ∷ filter p xs) (filter p xs)) (All-head (λ y. p y ≡ q y) x xs all)
    ∙ ap (λ ys. cond (q x) (x ∷ ys) ys) (filter_alike p q xs (All-tail (λ y. p y ≡ q y) x xs all))

any_alike : {X : Type 0} (p q : X → Bool) (xs : List X) → All (λ x. p x ≡ q x) xs → list_any p xs ≡ list_any q xs
any_alike p q [] all = refl
any_alike p q (x ∷ xs) all =
    let here : p x ≡ q x = All-head (λ y. p y ≡ q y) x xs all in
    let rest : list_any p xs ≡ list_any q xs = any_alike p q xs (All-tail (λ y. p y ≡ q y) x xs all) in
    cc

turned : (a b c : ℕ) → a ≡ c → (a == b) ≡ (b == c)
turned a b c e = grind (arith, nat_tests)

put_here : (f x : FrameParts) (xs : List FrameParts) → is_before f x ≡ true → put_in_order f (x ∷ xs) ≡ f ∷ (x ∷ xs)
unfolding put_in_order
put_here f x xs e = ap (λ b. cond b (f ∷ (x ∷ xs)) (x ∷ put_in_order f xs)) e

put_later : (f x : FrameParts) (xs : List FrameParts) → is_before f x ≡ false → put_in_order f (x ∷ xs) ≡ x ∷ put_in_order f xs
unfolding put_in_order
put_later f x xs e = ap (λ b. cond b (f ∷ (x ∷ xs)) (x ∷ put_in_order f xs)) e

put_last : (f : FrameParts) → put_in_order f [] ≡ f ∷ []
unfolding put_in_order
put_last f = refl

module _ (format : Format) where
  -- the test of the list is one of the numbers of its frames
  alike_without : (p : FrameParts → Bool) (f : FrameParts) (xs : List FrameParts) → All (λ g. same_identity (identity_of f) (identity_of g) ≡ p g) xs
      → filter (λ g. not (p g)) xs ≡ without (identity_of f) xs
  alike_without p f xs all =
      filter_alike (λ g. not (p g)) (λ g. not (same_identity (identity_of f) (identity_of g))) xs (λ i d within. ap not (sym (all i d within)))

  -- ---- by identifier

  pub ascending_identifiers : (xs : List FrameParts) → All (FitsIdentifier format) xs → IsAscending format xs → IsAscendingBy (identifier_of format) xs
  ascending_identifiers [] all up = tt
  ascending_identifiers (x ∷ xs) all up =
      let rest : All (FitsIdentifier format) xs = All-tail (FitsIdentifier format) x xs all in (
        λ i d within. apart format x (get_or xs i d) (All-head (FitsIdentifier format) x xs all) (rest i d within) (up.0 i d within),
        ascending_identifiers xs rest up.1,
      )

  -- where no frame of an identity waits, or one with another identifier
  pub absent_identity : (ident place : ℕ) (xs : List FrameParts) → All (FitsIdentifier format) xs → IsGapFor (identity_number format) (ident - ident % 2 ^ 4) place xs
      → HaveOthers (identifier_of format) ident xs
  absent_identity ident place xs all gap =
      λ i d within. other_identifier format (get_or xs i d) ident (all i d within) (gap_others (identity_number format) (ident - ident % 2 ^ 4) place xs gap i d within)

  pub other_incarnation : (ident place : ℕ) (xs : List FrameParts) → All (FitsIdentifier format) xs → IsAscending format xs
      → IsPlaceOf (identity_number format) (ident - ident % 2 ^ 4) place xs → HoldsAt (λ f. identifier_of format f ≢ ident) xs place
      → HaveOthers (identifier_of format) ident xs
  other_incarnation ident place xs all up at here =
      holds_of_all (identity_number format) (λ f. identifier_of format f ≢ ident) (ident - ident % 2 ^ 4) xs place up at here
      (λ i d within other. other_identifier format (get_or xs i d) ident (all i d within) other)

  -- on frames that fit, the identifier of a frame whose class tells no incarnation is an identity
  alike : (ident : ℕ) (f g : FrameParts) → FitsIdentifier format f → has_incarnation f.class ≡ false → FitsIdentifier format g → identifier_of format f ≡ ident
      → same_identity (identity_of f) (identity_of g) ≡ is_numbered (identifier_of format) ident g
  alike ident f g fits_f none fits_g same =
      identity_is_identifier format f g fits_f fits_g none ∙ turned (identifier_of format f) (identifier_of format g) ident same

  pub without_is : (ident : ℕ) (f : FrameParts) (xs : List FrameParts) → FitsIdentifier format f → has_incarnation f.class ≡ false → identifier_of format f ≡ ident
      → All (FitsIdentifier format) xs → but_numbered (identifier_of format) ident xs ≡ without (identity_of f) xs
  without_is ident f xs fits none same all =
      alike_without (is_numbered (identifier_of format) ident) f xs (λ i d within. alike ident f (get_or xs i d) fits none (all i d within) same)

  pub waits_is : (ident : ℕ) (f : FrameParts) (xs : List FrameParts) → FitsIdentifier format f → has_incarnation f.class ≡ false → identifier_of format f ≡ ident
      → All (FitsIdentifier format) xs → list_any (is_numbered (identifier_of format) ident) xs ≡ waits (identity_of f) xs
  waits_is ident f xs fits none same all =
      any_alike (is_numbered (identifier_of format) ident) (λ g. same_identity (identity_of f) (identity_of g)) xs
      (λ i d within. sym (alike ident f (get_or xs i d) fits none (all i d within) same))

  -- ---- by identity

  of_identity : (f g : FrameParts) → FitsIdentifier format f → FitsIdentifier format g
      → same_identity (identity_of f) (identity_of g) ≡ is_numbered (identity_number format) (identity_number format f) g
  of_identity f g fits_f fits_g =
      same_identity_is format f g fits_f.0 fits_g.0 ∙ turned (identity_number format f) (identity_number format g) (identity_number format f) refl

  without_identity : (f : FrameParts) (xs : List FrameParts) → FitsIdentifier format f → All (FitsIdentifier format) xs
      → but_numbered (identity_number format) (identity_number format f) xs ≡ without (identity_of f) xs
  without_identity f xs fits all =
      alike_without (is_numbered (identity_number format) (identity_number format f)) f xs (λ i d within. of_identity f (get_or xs i d) fits (all i d within))

  pub waits_identity : (f : FrameParts) (xs : List FrameParts) → FitsIdentifier format f → All (FitsIdentifier format) xs
      → list_any (is_numbered (identity_number format) (identity_number format f)) xs ≡ waits (identity_of f) xs
  waits_identity f xs fits all =
      any_alike (is_numbered (identity_number format) (identity_number format f)) (λ g. same_identity (identity_of f) (identity_of g)) xs
      (λ i d within. sym (of_identity f (get_or xs i d) fits (all i d within)))

  -- a frame that wins over all goes to the front
  put_first : (f : FrameParts) (xs : List FrameParts) → FitsIdentifier format f → All (FitsIdentifier format) xs
      → AllAbove (identity_number format) (identity_number format f) xs → put_in_order f xs ≡ f ∷ xs
  put_first f [] fits all above = put_last f
  put_first f (x ∷ xs) fits all above =
      put_here f x xs
      (wins format f x fits (All-head (FitsIdentifier format) x xs all) (All-head (λ g. identity_number format f < identity_number format g) x xs above))

  put_inserted : (f : FrameParts) (xs : List FrameParts) (place : ℕ) → FitsIdentifier format f → All (FitsIdentifier format) xs → place ≤ length xs
      → AllBelow (identity_number format) (identity_number format f) (take place xs) → AllAbove (identity_number format) (identity_number format f) (drop place xs)
      → put_in_order f xs ≡ insert xs place f
  put_inserted f xs zero fits all within below above = put_first f xs fits all above
  put_inserted f [] (suc place) fits all within below above = absurd (omega arith)
  put_inserted f (x ∷ xs) (suc place) fits all within below above =
      let less : identity_number format x < identity_number format f = All-head (λ g. identity_number format g < identity_number format f) x (take place xs) below in
      put_later f x xs (loses format f x fits (All-head (FitsIdentifier format) x xs all) less)
      ∙ ap (λ ys. x ∷ ys)
      (put_inserted f xs place fits (All-tail (FitsIdentifier format) x xs all) (omega arith)
      (All-tail (λ g. identity_number format g < identity_number format f) x (take place xs) below) above)

  -- asking for a frame of which none of its identity waits
  pub gap_with : (f : FrameParts) (xs : List FrameParts) (place : ℕ) → FitsIdentifier format f → All (FitsIdentifier format) xs
      → IsGapFor (identity_number format) (identity_number format f) place xs → with_frame f xs ≡ insert xs place f
  gap_with f xs place fits all gap =
      let others : HaveOthers (identity_number format) (identity_number format f) xs = gap_others (identity_number format) (identity_number format f) place xs gap in
      ap (put_in_order f) (sym (without_identity f xs fits all) ∙ others_kept (identity_number format) (identity_number format f) xs others)
      ∙ put_inserted f xs place fits all gap.within gap.before gap.after

  put_set : (f : FrameParts) (xs : List FrameParts) (place : ℕ) → FitsIdentifier format f → All (FitsIdentifier format) xs → IsAscending format xs
      → IsPlaceOf (identity_number format) (identity_number format f) place xs
      → put_in_order f (but_numbered (identity_number format) (identity_number format f) xs) ≡ set xs place f
  put_set f [] place fits all up at = let within : place < 0 = at.within in absurd (omega arith)
  put_set f (x ∷ xs) zero fits all up at =
      let number : ℕ = identity_number format f in
      let same : identity_number format x ≡ number = at.numbered x in
      let above : AllAbove (identity_number format) number xs = rest_above (identity_number format) number x xs up same in
      ap (put_in_order f) (drop_numbered (identity_number format) number x xs same ∙ above_kept (identity_number format) number xs above)
      ∙ put_first f xs fits (All-tail (FitsIdentifier format) x xs all) above
  put_set f (x ∷ xs) (suc place) fits all up at =
      let number : ℕ = identity_number format f in
      let earlier = earlier_below (identity_number format) number x xs place up at in
      ap (put_in_order f) (keep_other (identity_number format) number x xs (λ same. omega (arith, earlier.0, same)))
      ∙ put_later f x (but_numbered (identity_number format) number xs) (loses format f x fits (All-head (FitsIdentifier format) x xs all) earlier.0)
      ∙ ap (λ ys. x ∷ ys) (put_set f xs place fits (All-tail (FitsIdentifier format) x xs all) up.1 earlier.1)

  -- asking for a frame in place of one of its identity
  pub place_with : (f : FrameParts) (xs : List FrameParts) (place : ℕ) → FitsIdentifier format f → All (FitsIdentifier format) xs → IsAscending format xs
      → IsPlaceOf (identity_number format) (identity_number format f) place xs → with_frame f xs ≡ set xs place f
  place_with f xs place fits all up at = ap (put_in_order f) (sym (without_identity f xs fits all)) ∙ put_set f xs place fits all up at

  -- ---- the first

  -- the first of ascending frames wins
  pub first_is_least : (xs : List FrameParts) → All (FitsIdentifier format) xs → IsAscending format xs → slice_get xs 0 ≡ least_frame xs
  unfolding least_frame
  first_is_least [] all up = refl
  first_is_least (x ∷ []) all up = refl
  first_is_least (x ∷ (y ∷ ys)) all up =
      let rest_fit : All (FitsIdentifier format) (y ∷ ys) = All-tail (FitsIdentifier format) x (y ∷ ys) all in
      let rest : Some y ≡ least_frame (y ∷ ys) = first_is_least (y ∷ ys) rest_fit up.1 in
      let less : identity_number format x < identity_number format y = All-head (λ g. identity_number format x < identity_number format g) y ys up.0 in
      let lost : is_before y x ≡ false = loses format y x (All-head (FitsIdentifier format) y ys rest_fit) (All-head (FitsIdentifier format) x (y ∷ ys) all) less in
      ap (λ b. Some (if b then y else x)) (sym lost) ∙ ap (λ o. Some (better x o)) rest

  -- the first of ascending frames has the least key, and no other has it
  pub head_has_least_key : (xs : List FrameParts) → IsAscendingBy (identifier_of format) xs → IfSome (slice_get xs 0) (λ f. All (λ g. (g ≡ f) ⊎ (key_of format f < key_of format g)) xs)
  head_has_least_key [] up = tt
  head_has_least_key (x ∷ xs) up =
      All-cons (λ g. (g ≡ x) ⊎ (key_of format x < key_of format g)) x xs (inl refl) (λ i d within. inr (key_below format x (get_or xs i d) (up.0 i d within)))
