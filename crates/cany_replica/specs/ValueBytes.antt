-- How a value keeps its bytes.
use Rattle.std.specs.Prelude.{◌≡◌, ℕ, zero, suc, ◌<◌, ◌≤◌, List, [], ◌∷◌, length, take, slice_index, refl}
use Rattle.cany_replica.specs.declared.value.Value.TheInside.{Inside}
use Rattle.std.proofs.Common.{arith, sym, ◌∙◌, inl, inr, length-take-le}
use Rattle.std.proofs.lemmas.Bool.{cases_lt}
use Rattle.std.proofs.lemmas.List.{get_or-take, get_or_past, length-take, ext_get_or}

abbrev pub bytes_of : Inside → List ℕ
bytes_of v = take v.len v.bytes

pub record IsPadded (v : Inside) : Type 0 where
  pub short : v.len ≤ 6
  pub places : length v.bytes ≡ 6
  pub zeros : (i : ℕ) → v.len ≤ i → slice_index v.bytes i ≡ 0

-- the bytes, and zeros up to six
abbrev pub six_of : List ℕ → List ℕ
six_of bytes = slice_index bytes 0 ∷ slice_index bytes 1 ∷ slice_index bytes 2 ∷ slice_index bytes 3 ∷ slice_index bytes 4 ∷ slice_index bytes 5 ∷ []

abbrev pub padded : List ℕ → Inside
padded bytes = record { len = length bytes; bytes = six_of bytes }

-- The bytes give the value back. This lemma stands here and not in `proofs/`, since the type's
-- clause `inverse_ok` cites it and a clause of the code sees `specs/` alone.

six_of-index : (bytes : List ℕ) (i : ℕ) → i < 6 → slice_index (six_of bytes) i ≡ slice_index bytes i
six_of-index bytes zero h = refl
six_of-index bytes (suc zero) h = refl
six_of-index bytes (suc (suc zero)) h = refl
six_of-index bytes (suc (suc (suc zero))) h = refl
six_of-index bytes (suc (suc (suc (suc zero)))) h = refl
six_of-index bytes (suc (suc (suc (suc (suc zero))))) h = refl
six_of-index bytes (suc (suc (suc (suc (suc (suc i)))))) h = absurd (omega arith)

-- what is cut off was 0
byte_back : (v : Inside) (i : ℕ) → IsPadded v → slice_index (bytes_of v) i ≡ slice_index v.bytes i
byte_back v i h = elim (cases_lt i v.len) [
  | inl inside ↦ get_or-take v.len v.bytes i 0 inside
  | inr past ↦ get_or_past (bytes_of v) i 0 (omega (arith, length-take v.len v.bytes)) ∙ sym (h.zeros i past)
]

six_back : (v : Inside) → IsPadded v → six_of (bytes_of v) ≡ v.bytes
six_back v h = ext_get_or 0 (six_of (bytes_of v)) v.bytes (sym h.places) (λ i inside. six_of-index (bytes_of v) i inside ∙ byte_back v i h)

pub padded-bytes_of : (v : Inside) → IsPadded v → padded (bytes_of v) ≡ v
padded-bytes_of v h = λ i. record {
  len = length-take-le v.len v.bytes (omega (arith, h.short, h.places)) i;
  bytes = six_back v h i;
}
