-- The pieces of a line, the last one first.
use Rattle.std.proofs.Common.{◌≡◌, ℕ, suc, ◌+◌, ◌-◌, ◌<◌, ◌≤◌, List, [], ◌∷◌, ◌++◌, length, take, drop, get_or, refl, sym, ◌∙◌, ap, append_assoc, arith}
use Rattle.std.specs.List.{flat_map, join_with_byte}
use Rattle.std.proofs.lemmas.List.{take-append-drop}
use Rattle.std.proofs.lemmas.List.Concat.{flat_map-append}
use Rattle.std.proofs.Math.Seq.{drop-cons, drop-length}
use Rattle.cany_log.specs.declared.text_field.TextField.{TextField}
use Rattle.cany_log.specs.Fields.{most_bytes, room_of, spaced, texts_of}
use Rattle.cany_log.proofs.LineFacts.{joined}
use Rattle.cany_text.specs.ReportLines.{line_of}

room_of-append : (xs ys : List TextField) → room_of (xs ++ ys) ≡ room_of xs + room_of ys
room_of-append [] ys = omega arith
room_of-append (x ∷ xs) ys = omega (arith, room_of-append xs ys)

-- the bytes of a piece in a line
abbrev pub bytes_of : TextField → List ℕ
bytes_of field = spaced (texts_of field)

-- a row has the pieces from piece i on, and what ends the line
pub record HasFields (fields : List TextField) (i : ℕ) (row : List ℕ) : Type 0 where
  pub text : row ≡ flat_map bytes_of (drop i fields) ++ 10 ∷ []
  pub short : length row ≤ room_of (drop i fields) + 1
  pub within : i ≤ length fields

pub HasFields-start : (fields : List TextField) (i : ℕ) (row : List ℕ) → i ≡ length fields → row ≡ 10 ∷ [] → HasFields fields i row
HasFields-start fields i row all is =
    let none : drop i fields ≡ [] = ap (λ i. drop i fields) all ∙ drop-length fields in
    record { text = is ∙ ap (λ fs. flat_map bytes_of fs ++ 10 ∷ []) (sym none); short = omega (arith, ap length is); within = omega (arith, all) }

next_field : (fields : List TextField) (i : ℕ) (f : TextField) → 0 < i → i ≤ length fields → f ≡ get_or fields (i - 1) f → drop (i - 1) fields ≡ f ∷ drop i fields
next_field fields i f some within is =
    let next : suc (i - 1) ≡ i = omega arith in
    drop-cons fields (i - 1) f (omega arith) ∙ ap (λ x. x ∷ drop (suc (i - 1)) fields) (sym is) ∙ ap (λ i. f ∷ drop i fields) next

next_room : (fields : List TextField) (i : ℕ) (f : TextField) → 0 < i → i ≤ length fields → f ≡ get_or fields (i - 1) f
    → room_of (drop (i - 1) fields) ≡ most_bytes f + room_of (drop i fields)
next_room fields i f some within is = ap room_of (next_field fields i f some within is)

room_of-drop-le : (fields : List TextField) (i : ℕ) → room_of (drop i fields) ≤ room_of fields
room_of-drop-le fields i =
    let e : room_of (take i fields ++ drop i fields) ≡ room_of fields = ap room_of (take-append-drop i fields) in
    omega (arith, e, room_of-append (take i fields) (drop i fields))

-- there is room for the next piece
pub HasFields-room : (fields : List TextField) (i : ℕ) (row : List ℕ) (f : TextField) → HasFields fields i row → 0 < i → f ≡ get_or fields (i - 1) f
    → length row + most_bytes f ≤ room_of fields + 1
HasFields-room fields i row f h some is =
    omega (arith, h.short, next_room fields i f some h.within is, room_of-drop-le fields (i - 1))

spaced-texts : (fields : List TextField) → spaced (flat_map texts_of fields) ≡ flat_map bytes_of fields
spaced-texts [] = refl
spaced-texts (f ∷ fs) =
    flat_map-append (λ (t : List ℕ). 32 ∷ t) (texts_of f) (flat_map texts_of fs) ∙ ap (λ r. bytes_of f ++ r) (spaced-texts fs)

pub HasFields-done : (words : List ℕ) (fields : List TextField) (i : ℕ) (row row' : List ℕ) → HasFields fields i row → i ≡ 0 → row' ≡ words ++ row
    → row' ≡ line_of (words ∷ flat_map texts_of fields)
unfolding line_of
HasFields-done words fields i row row' h first put =
    let text : row ≡ flat_map bytes_of fields ++ 10 ∷ [] = h.text ∙ ap (λ i. flat_map bytes_of (drop i fields) ++ 10 ∷ []) first in
    let line : words ++ flat_map bytes_of fields ≡ join_with_byte 32 (words ∷ flat_map texts_of fields) =
    ap (λ r. words ++ r) (sym (spaced-texts fields)) ∙ sym (joined words (flat_map texts_of fields)) in
    put ∙ ap (λ r. words ++ r) text ∙ sym (append_assoc words (flat_map bytes_of fields) (10 ∷ [])) ∙ ap (λ r. r ++ 10 ∷ []) line
