-- A payload's bytes, and the row of eight that it keeps.
use Rattle.std.proofs.Common.{◌≡◌, ℕ, zero, suc, ◌^◌, ◌<◌, ◌≤◌, List, length, take, slice_get, slice_index, nat_eq, Some, refl, ap, sym, ◌∙◌, arith, length-take-le}
use Rattle.std.specs.Int.{to_be_bytes, from_be_bytes}
use Rattle.std.proofs.lemmas.Nat.{from_be_bytes-to_be_bytes_4, from_be_bytes-to_be_bytes_8}
use Rattle.std.proofs.lemmas.List.{get_or-take, ext_get_or}
use Rattle.std.proofs.lemmas.Option.{slice_get-get_or}
use Rattle.std.proofs.lemmas.Bool.Decides.{same_from_decides, Decides-like}
use Rattle.std.specs.Cmp.Lexicographic.{pointwise, bytes_decides}
use Rattle.cany_base.specs.declared.format.Format.{Format}
use Rattle.cany_base.specs.declared.format.Format.TheVariants.{One, Two}
use Rattle.cany_base.specs.declared.payload.Payload.TheInside.{Inside}
use Rattle.cany_base.specs.Layout.{layout}
use Rattle.cany_base.specs.Payload.{vector_width}
use Rattle.cany_base.specs.PayloadBytes.{all_bytes, bytes_of, row_of, IsPadded, padded-bytes_of}

pub row_of-index : (bytes : List ℕ) (i : ℕ) → i < 8 → slice_index (row_of bytes) i ≡ slice_index bytes i
row_of-index bytes zero h = refl
row_of-index bytes (suc zero) h = refl
row_of-index bytes (suc (suc zero)) h = refl
row_of-index bytes (suc (suc (suc zero))) h = refl
row_of-index bytes (suc (suc (suc (suc zero)))) h = refl
row_of-index bytes (suc (suc (suc (suc (suc zero))))) h = refl
row_of-index bytes (suc (suc (suc (suc (suc (suc zero)))))) h = refl
row_of-index bytes (suc (suc (suc (suc (suc (suc (suc zero))))))) h = refl
row_of-index bytes (suc (suc (suc (suc (suc (suc (suc (suc i)))))))) h = absurd (omega arith)

pub bytes_of-padded : (bytes : List ℕ) → length bytes ≤ 8 → take (length bytes) (row_of bytes) ≡ bytes
bytes_of-padded bytes short =
    ext_get_or 0 _ bytes (length-take-le (length bytes) (row_of bytes) short)
    (λ i h.
    let below : i < length bytes = rw (length-take-le (length bytes) (row_of bytes) short) at h in
    get_or-take (length bytes) (row_of bytes) i 0 below ∙ row_of-index bytes i (omega arith))

-- payloads of one length are equal where their rows are
pub rows_decide : (a b : List ℕ) → length a ≤ 8 → length b ≤ 8 → length a ≡ length b → pointwise nat_eq (row_of a) (row_of b) ≡ pointwise nat_eq a b
rows_decide a b ha hb same =
    same_from_decides (pointwise nat_eq (row_of a) (row_of b)) (pointwise nat_eq a b)
    (Decides-like (pointwise nat_eq (row_of a) (row_of b))
    (λ (e : row_of a ≡ row_of b). sym (bytes_of-padded a ha) ∙ (λ i. take (same i) (e i)) ∙ bytes_of-padded b hb)
    (λ (e : a ≡ b). ap row_of e)
    (bytes_decides (row_of a) (row_of b)))
    (bytes_decides a b)

pub row_of-kept : (p : Inside) → IsPadded p → all_bytes p ≡ row_of (bytes_of p)
row_of-kept p h = sym (ap all_bytes (padded-bytes_of p h))

pub row_of-get : (bytes : List ℕ) (i : ℕ) → i < length bytes → length bytes ≤ 8 → slice_get bytes i ≡ Some (slice_index (row_of bytes) i)
row_of-get bytes i below short = rw (row_of-index bytes i (omega arith)) (slice_get-get_or bytes i 0 below)

pub length-bytes_of : (p : Inside) → IsPadded p → length (bytes_of p) ≡ p.len
length-bytes_of p h = length-take-le p.len (all_bytes p) h.short

-- the bytes of a vector give its number back
pub bits-back : (format : Format) (n : ℕ) → n < 2 ^ (layout format).nodes → from_be_bytes (vector_width format) (to_be_bytes (vector_width format) n) ≡ n
bits-back One n small = from_be_bytes-to_be_bytes_4 n small
bits-back Two n small = from_be_bytes-to_be_bytes_8 n small
