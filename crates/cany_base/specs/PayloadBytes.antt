-- How a payload keeps its bytes.
use Rattle.std.specs.Prelude.{◌≡◌, ℕ, ◌<◌, ◌≤◌, List, [], ◌∷◌, length, take, slice_index, All}
use Rattle.cany_base.specs.declared.payload.Payload.TheInside.{Inside}
use Rattle.std.proofs.Common.{arith, sym, ◌∙◌, inl, inr, length-take-le}
use Rattle.std.proofs.lemmas.Bool.{cases_lt}
use Rattle.std.proofs.lemmas.List.{get_or-take, get_or_past, length-take}

abbrev pub all_bytes : Inside → List ℕ
all_bytes p = p.b0 ∷ p.b1 ∷ p.b2 ∷ p.b3 ∷ p.b4 ∷ p.b5 ∷ p.b6 ∷ p.b7 ∷ []

abbrev pub bytes_of : Inside → List ℕ
bytes_of p = take p.len (all_bytes p)

pub record IsPadded (p : Inside) : Type 0 where
  pub short : p.len ≤ 8
  pub bytes : All (λ b. b < 256) (all_bytes p)
  pub zeros : (i : ℕ) → p.len ≤ i → slice_index (all_bytes p) i ≡ 0

abbrev pub padded : List ℕ → Inside
padded bytes = record {
  len = length bytes;
  b0 = slice_index bytes 0;
  b1 = slice_index bytes 1;
  b2 = slice_index bytes 2;
  b3 = slice_index bytes 3;
  b4 = slice_index bytes 4;
  b5 = slice_index bytes 5;
  b6 = slice_index bytes 6;
  b7 = slice_index bytes 7;
}

-- the bytes, and zeros up to eight
abbrev pub row_of : List ℕ → List ℕ
row_of bytes = all_bytes (padded bytes)

-- The bytes give the payload back. This lemma stands here and not in `proofs/`, since the type's
-- clause `inverse_ok` cites it and a clause of the code sees `specs/` alone.

-- what is cut off was 0
byte_back : (p : Inside) (i : ℕ) → IsPadded p → slice_index (bytes_of p) i ≡ slice_index (all_bytes p) i
byte_back p i h = elim (cases_lt i p.len) [
  | inl inside ↦ get_or-take p.len (all_bytes p) i 0 inside
  | inr past ↦ get_or_past (bytes_of p) i 0 (omega (arith, length-take p.len (all_bytes p))) ∙ sym (h.zeros i past)
]

pub padded-bytes_of : (p : Inside) → IsPadded p → padded (bytes_of p) ≡ p
padded-bytes_of p h = λ i. record {
  len = length-take-le p.len (all_bytes p) h.short i;
  b0 = byte_back p 0 h i;
  b1 = byte_back p 1 h i;
  b2 = byte_back p 2 h i;
  b3 = byte_back p 3 h i;
  b4 = byte_back p 4 h i;
  b5 = byte_back p 5 h i;
  b6 = byte_back p 6 h i;
  b7 = byte_back p 7 h i;
}
