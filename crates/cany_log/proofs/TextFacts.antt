-- The bytes of a payload as text.
use Rattle.std.proofs.Common.{◌≡◌, ℕ, ◌+◌, ◌*◌, List, [], ◌∷◌, ◌++◌, drop, length, refl, ◌∙◌, ap, arith}
use Rattle.std.specs.List.{flat_map}
use Rattle.cany_text.specs.ReportLines.{byte_text, payload_text}

-- all bytes of a payload are there, from byte i = 0 on, and then the mark before them
pub payload_text_done : (payload after row row' : List ℕ) (i : ℕ) → row ≡ flat_map byte_text (drop i payload) ++ after → i ≡ 0 → row' ≡ 32 ∷ 120 ∷ row
    → row' ≡ 32 ∷ payload_text payload ++ after
unfolding payload_text
payload_text_done payload after row row' i row_is first row_is' =
    row_is' ∙ ap (λ r. 32 ∷ 120 ∷ r) (row_is ∙ ap (λ n. flat_map byte_text (drop n payload) ++ after) first)

length-digits : (bytes : List ℕ) → length (flat_map byte_text bytes) ≡ 2 * length bytes
length-digits [] = refl
length-digits (byte ∷ bytes) = omega (arith, length-digits bytes)

pub length-payload_text : (bytes : List ℕ) → length (payload_text bytes) ≡ 1 + 2 * length bytes
unfolding payload_text
length-payload_text bytes = omega (arith, length-digits bytes)
