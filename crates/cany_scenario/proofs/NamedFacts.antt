-- The first of some things that is called so, one after another.
use Rattle.std.proofs.Common.{◌≡◌, ℕ, ◌+◌, ◌<◌, true, false, List, ◌∷◌, drop, get_or, length, Some, None, refl, sym, ◌∙◌, ap}
use Rattle.std.proofs.Math.Seq.{drop-length}
use Rattle.std.proofs.lemmas.List.{drop_more}
use Rattle.std.specs.Str.{bytes_eq}
use Rattle.cany_text.specs.TextNames.{named}

module _ {A : Type 0} (name_of : A → List ℕ) (these : List A) (i : ℕ) where
  from_here : (x : A) (name : List ℕ) → i < length these → x ≡ get_or these i x → named name_of (drop i these) name ≡ named name_of (x ∷ drop (i + 1) these) name
  from_here x name within is = ap (λ l. named name_of l name) (drop_more these i x within ∙ ap (λ y. y ∷ drop (i + 1) these) (sym is))

  -- the one at an index is called so
  pub named-here : (x : A) (name : List ℕ) → i < length these → x ≡ get_or these i x → bytes_eq (name_of x) name ≡ true
      → named name_of (drop i these) name ≡ Some x
  named-here x name within is called = from_here x name within is ∙ rw called refl

  -- or another is
  pub named-later : (x : A) (name : List ℕ) → i < length these → x ≡ get_or these i x → bytes_eq (name_of x) name ≡ false
      → named name_of (drop i these) name ≡ named name_of (drop (i + 1) these) name
  named-later x name within is other = from_here x name within is ∙ rw other refl

  -- none is left
  pub named-none : (name : List ℕ) → i ≡ length these → named name_of (drop i these) name ≡ None
  named-none name end = rw (end, drop-length these) refl
