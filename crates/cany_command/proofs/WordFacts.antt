-- A list of one word, and a test of that word.
use Rattle.std.proofs.Common.{◌≡◌, ℕ, ◌<◌, ◌≤◌, ◌↔◌, Bool, true, IsTrue, List, [], ◌∷◌, length, map, get_or, sym, ◌∙◌, ap, arith}
use Rattle.std.specs.Bool.{Decides}
use Rattle.std.specs.Str.{bytes_eq}
use Rattle.std.proofs.lemmas.Slice.Eq.{bytes_eq-Decides}

-- a list of one word
pub one_word : {A : Type 0} (f : A → List ℕ) (words : List A) (word : A) → 1 ≤ length words → length words < 2
    → word ≡ get_or words 0 word → map f words ≡ f word ∷ []
one_word f [] word some few is = absurd (omega arith)
one_word f (x ∷ []) word some few is = ap (λ y. f y ∷ []) (sym is)
one_word f (x ∷ y ∷ words) word some few is = absurd (omega arith)

-- a test of the one word of a list
pub is_word : (words : List (List ℕ)) (word shown text : List ℕ) (r : Bool) → words ≡ word ∷ [] → shown ≡ word → r ≡ bytes_eq shown text
    → IsTrue r ↔ (words ≡ text ∷ [])
is_word words word shown text r one same is =
    let d : Decides (bytes_eq shown text) (shown ≡ text) = bytes_eq-Decides shown text in (
      (λ h. let t : bytes_eq shown text ≡ true = sym is ∙ h in let e : shown ≡ text = d.0 t in let w : word ≡ text = cc in one ∙ ap (λ x. x ∷ []) w),
      (λ h. let e : shown ≡ text = cc in is ∙ d.1 e),
    )
