-- What is put on a page item by item, the last one first, and what is written page by page.
use Rattle.std.proofs.Common.{◌≡◌, ℕ, suc, ◌-◌, ◌<◌, ◌≤◌, List, [], ◌∷◌, ◌++◌, length, take, drop, get_or, refl, sym, ◌∙◌, ap, append_assoc, append-nil, length-drop, arith}
use Rattle.std.specs.List.{flat_map}
use Rattle.std.proofs.Math.Seq.{drop-cons, drop-length}
use Rattle.std.proofs.lemmas.List.{take-append-drop, drop-append-le, length-take}
use Rattle.std.proofs.lemmas.List.Concat.{flat_map-append}

-- a page on which nothing else stood
pub alone : (part page full : List ℕ) → full ≡ part ++ page → page ≡ [] → full ≡ part
alone part page full put empty = put ∙ ap (λ r. part ++ r) empty ∙ append-nil part

module _ {X : Type 0} (f : X → List ℕ) where
  -- what is written of the items from one place on is there, before what was there
  pub record HasPut (xs : List X) (i : ℕ) (after page : List ℕ) : Type 0 where
    pub text : page ≡ flat_map f (drop i xs) ++ after
    pub within : i ≤ length xs

  pub HasPut-start : (xs : List X) (i : ℕ) (page : List ℕ) → i ≡ length xs → HasPut xs i page page
  HasPut-start xs i page all =
      let none : drop i xs ≡ [] = ap (λ i. drop i xs) all ∙ drop-length xs in
      record { text = ap (λ ys. flat_map f ys ++ page) (sym none); within = omega (arith, all) }

  -- one item more
  pub HasPut-next : (xs : List X) (i : ℕ) (x : X) (after page page' : List ℕ) → HasPut xs i after page → 0 < i → x ≡ get_or xs (i - 1) x → page' ≡ f x ++ page
      → HasPut xs (i - 1) after page'
  HasPut-next xs i x after page page' h some is put =
      let next : suc (i - 1) ≡ i = omega (arith, some) in
      let items : drop (i - 1) xs ≡ x ∷ drop i xs =
      drop-cons xs (i - 1) x (omega (arith, some, h.within)) ∙ ap (λ y. y ∷ drop (suc (i - 1)) xs) (sym is) ∙ ap (λ i. x ∷ drop i xs) next in
      record {
        text = put ∙ ap (λ r. f x ++ r) h.text ∙ sym (append_assoc (f x) (flat_map f (drop i xs)) after) ∙ ap (λ ys. flat_map f ys ++ after) (sym items);
        within = omega (arith, h.within);
      }

  -- all items
  pub HasPut-all : (xs : List X) (i : ℕ) (after page : List ℕ) → HasPut xs i after page → i ≡ 0 → page ≡ flat_map f xs ++ after
  HasPut-all xs i after page h first = h.text ∙ ap (λ i. flat_map f (drop i xs) ++ after) first

  -- the items from one place on to before another, and then those after them
  pub next_items : (xs : List X) (i j : ℕ) → i ≤ j → j ≤ length xs → flat_map f (drop i xs) ≡ flat_map f (drop i (take j xs)) ++ flat_map f (drop j xs)
  next_items xs i j order within =
      let inside : i ≤ length (take j xs) = omega (arith, order, within, length-take j xs) in
      ap (λ ys. flat_map f (drop i ys)) (sym (take-append-drop j xs))
      ∙ ap (flat_map f) (drop-append-le i (take j xs) (drop j xs) inside)
      ∙ flat_map-append f (drop i (take j xs)) (drop j xs)

  -- a piece of the items, and then the rest of them
  pub next_chunk : (xs ys rest : List X) → rest ≡ xs ++ ys → flat_map f rest ≡ flat_map f xs ++ flat_map f ys
  next_chunk xs ys rest is = ap (flat_map f) is ∙ flat_map-append f xs ys

  pub no_items : (xs : List X) → length xs ≡ 0 → flat_map f xs ≡ []
  no_items [] none = refl
  no_items (x ∷ xs) none = absurd (omega (arith, none))

  pub past_items : (xs : List X) (i : ℕ) → length xs ≤ i → flat_map f (drop i xs) ≡ []
  past_items xs i past = no_items (drop i xs) (omega (arith, past, length-drop i xs))
