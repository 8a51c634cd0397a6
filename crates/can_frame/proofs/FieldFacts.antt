-- The masks and shifts of a field, as arithmetic.
use Rattle.std.proofs.Common.{◌≡◌, ℕ, ◌+◌, ◌*◌, ◌^◌, ◌<◌, ◌-◌, ◌≤◌, ◌/◌, ◌%◌, bit_and, bit_or, sym, ◌∙◌, ap, arith, lit<, inl, inr, add-zero}
use Rattle.std.specs.Int.{bit_at}
use Rattle.std.specs.Int.Bits.{or_zero_r}
use Rattle.std.proofs.Math.Nat.{mul_comm, mul-sub, add-mul, pow-le-pow_right}
use Rattle.std.proofs.lemmas.Nat.{pow_pos, pow-add, and_mask, and_comm, and-not, or_block, or_shifted, shl_whole, shr_split, shr_high, mod_low, mod_below}
use Rattle.std.proofs.lemmas.Nat.Bits.{and_high, ones_shr, bit_at_cat_low, bit_at_cat_high}
use Rattle.can_frame.specs.Field.{IsPlaced, IsOutside, field_of}

-- the mask of a width
ones_of : (width : ℕ) → width ≤ 32 → 4294967295 / 2 ^ (32 - width) ≡ 2 ^ width - 1
ones_of width h =
    let within : 32 - width ≤ 32 = omega arith in
    let e : 32 - (32 - width) ≡ width = omega arith in
    ones_shr 32 (32 - width) within ∙ ap (λ n. 2 ^ n - 1) e

pub take_is : (shift width word : ℕ) → IsPlaced shift width → bit_and (word / 2 ^ shift) (4294967295 / 2 ^ (32 - width)) ≡ field_of shift width word
take_is shift width word p =
    let within : width ≤ 32 = omega (arith, p.in_word) in
    ap (bit_and (word / 2 ^ shift)) (ones_of width within) ∙ and_mask (word / 2 ^ shift) width

pred_times : (a b : ℕ) → (a - 1) * b ≡ a * b - b
pred_times a b = mul_comm (a - 1) b ∙ mul-sub b a 1 ∙ omega arith

-- the mask of a field
mask_of : (shift width : ℕ) → IsPlaced shift width → 4294967295 / 2 ^ (32 - width) * 2 ^ shift % 4294967296 ≡ 2 ^ (width + shift) - 2 ^ shift
mask_of shift width p =
    let within : width ≤ 32 = omega (arith, p.in_word) in
    let placed : width + shift ≤ 32 = omega (arith, p.in_word) in
    let positive : 0 < 2 ^ width = pow_pos width in
    let below : 2 ^ width - 1 < 2 ^ width = omega arith in
    ap (λ m. m * 2 ^ shift % 4294967296) (ones_of width within)
    ∙ shl_whole (2 ^ width - 1) width shift 32 below placed
    ∙ pred_times (2 ^ width) (2 ^ shift)
    ∙ ap (λ n. n - 2 ^ shift) (sym (pow-add 2 width shift))

-- the bits above a field, and those below it
abbrev pub above : ℕ → ℕ → ℕ → ℕ
above shift width word = word / 2 ^ shift / 2 ^ width

abbrev pub below : ℕ → ℕ → ℕ
below shift word = word % 2 ^ shift

-- a word by its three parts
three_parts : (shift width word : ℕ) → (above shift width word * 2 ^ width + field_of shift width word) * 2 ^ shift + below shift word ≡ word
three_parts shift width word =
    ap (λ n. n * 2 ^ shift + word % 2 ^ shift) (shr_split (word / 2 ^ shift) width) ∙ shr_split word shift

-- the word with zeros in the field
cleared : (shift width word : ℕ) → IsPlaced shift width → word < 2 ^ 32 → bit_and word (4294967295 - 4294967295 / 2 ^ (32 - width) * 2 ^ shift % 4294967296) ≡ above shift width word * 2 ^ width * 2 ^ shift + below shift word
cleared shift width word p fits =
    let within : width + shift ≤ 32 = omega (arith, p.in_word) in
    let top : 2 ^ (width + shift) ≤ 2 ^ 32 = pow-le-pow_right (lit< tt) within in
    let positive : 0 < 2 ^ shift = pow_pos shift in
    let small : 2 ^ (width + shift) - 2 ^ shift < 2 ^ 32 = omega arith in
    let apart : bit_and (4294967295 - (2 ^ (width + shift) - 2 ^ shift)) word + bit_and (2 ^ (width + shift) - 2 ^ shift) word ≡ word
    = and-not 32 (2 ^ (width + shift) - 2 ^ shift) word small fits in
    let inside : bit_and (2 ^ (width + shift) - 2 ^ shift) word ≡ field_of shift width word * 2 ^ shift
    = and_comm (2 ^ (width + shift) - 2 ^ shift) word ∙ and_high word width shift in
    let parts = three_parts shift width word in
    let split = add-mul (above shift width word * 2 ^ width) (field_of shift width word) (2 ^ shift) in
    ap (λ m. bit_and word (4294967295 - m)) (mask_of shift width p)
    ∙ and_comm word (4294967295 - (2 ^ (width + shift) - 2 ^ shift))
    ∙ omega (arith, apart, inside, parts, split)

put_parts : (shift width word value : ℕ) → IsPlaced shift width → word < 2 ^ 32 → value < 2 ^ width → bit_or (bit_and word (4294967295 - 4294967295 / 2 ^ (32 - width) * 2 ^ shift % 4294967296)) (value * 2 ^ shift % 4294967296) ≡ (above shift width word * 2 ^ width + value) * 2 ^ shift + below shift word
put_parts shift width word value p fits small =
    let within : width + shift ≤ 32 = omega (arith, p.in_word) in
    let rest : word % 2 ^ shift < 2 ^ shift = mod_below word (2 ^ shift) (pow_pos shift) in
    ap (λ n. bit_or n (value * 2 ^ shift % 4294967296)) (cleared shift width word p fits)
    ∙ ap (bit_or (above shift width word * 2 ^ width * 2 ^ shift + word % 2 ^ shift)) (shl_whole value width shift 32 small within)
    ∙ ap (bit_or (above shift width word * 2 ^ width * 2 ^ shift + word % 2 ^ shift)) (sym (add-zero (value * 2 ^ shift)))
    ∙ or_block shift (above shift width word * 2 ^ width) value (word % 2 ^ shift) 0 rest (pow_pos shift)
    ∙ ap (λ n. n * 2 ^ shift + bit_or (word % 2 ^ shift) 0) (or_shifted (above shift width word) width value small)
    ∙ ap (λ n. (above shift width word * 2 ^ width + value) * 2 ^ shift + n) (or_zero_r (word % 2 ^ shift))

-- a word with another value in the field
pub with_field : ℕ → ℕ → ℕ → ℕ → ℕ
with_field shift width word value = (above shift width word * 2 ^ width + value) * 2 ^ shift + below shift word

pub field_of-with_field : (shift width word value : ℕ) → value < 2 ^ width → field_of shift width (with_field shift width word value) ≡ value
unfolding with_field
field_of-with_field shift width word value small =
    let rest : word % 2 ^ shift < 2 ^ shift = mod_below word (2 ^ shift) (pow_pos shift) in
    ap (λ n. n % 2 ^ width) (shr_high (above shift width word * 2 ^ width + value) shift (word % 2 ^ shift) rest)
    ∙ mod_low (above shift width word) width value small

pub with_field-sum : (shift width word value : ℕ) → with_field shift width word value + field_of shift width word * 2 ^ shift ≡ word + value * 2 ^ shift
unfolding with_field
with_field-sum shift width word value =
    omega (arith, three_parts shift width word, add-mul (above shift width word * 2 ^ width) (field_of shift width word) (2 ^ shift), add-mul (above shift width word * 2 ^ width) value (2 ^ shift))

with_own_field : (shift width word : ℕ) → with_field shift width word (field_of shift width word) ≡ word
unfolding with_field
with_own_field shift width word = three_parts shift width word

-- what a bit outside the field has does not depend on the value
bit_outside : (shift width word value : ℕ) → value < 2 ^ width → (i : ℕ) → IsOutside shift width i → bit_at (with_field shift width word value) i ≡ bit_at (with_field shift width word 0) i
unfolding with_field
bit_outside shift width word value small i outside =
    let rest : word % 2 ^ shift < 2 ^ shift = mod_below word (2 ^ shift) (pow_pos shift) in
    elim outside [
      | inl low ↦
          bit_at_cat_low (above shift width word * 2 ^ width + value) shift (word % 2 ^ shift) i low
          ∙ sym (bit_at_cat_low (above shift width word * 2 ^ width + 0) shift (word % 2 ^ shift) i low)
      | inr high ↦
          let far : shift ≤ i = omega arith in
          let farther : width ≤ i - shift = omega arith in
          bit_at_cat_high (above shift width word * 2 ^ width + value) shift (word % 2 ^ shift) i rest far
          ∙ bit_at_cat_high (above shift width word) width value (i - shift) small farther
          ∙ sym (bit_at_cat_high (above shift width word) width 0 (i - shift) (pow_pos width) farther)
          ∙ sym (bit_at_cat_high (above shift width word * 2 ^ width + 0) shift (word % 2 ^ shift) i rest far)
    ]

pub bit_at-with_field : (shift width word value : ℕ) → value < 2 ^ width → (i : ℕ) → IsOutside shift width i → bit_at (with_field shift width word value) i ≡ bit_at word i
bit_at-with_field shift width word value small i outside =
    let own : field_of shift width word < 2 ^ width = mod_below (word / 2 ^ shift) (2 ^ width) (pow_pos width) in
    bit_outside shift width word value small i outside
    ∙ sym (bit_outside shift width word (field_of shift width word) own i outside)
    ∙ ap (λ n. bit_at n i) (with_own_field shift width word)

pub put_is : (shift width word value : ℕ) → IsPlaced shift width → word < 2 ^ 32 → value < 2 ^ width → bit_or (bit_and word (4294967295 - 4294967295 / 2 ^ (32 - width) * 2 ^ shift % 4294967296)) (value * 2 ^ shift % 4294967296) ≡ with_field shift width word value
unfolding with_field
put_is shift width word value p fits small = put_parts shift width word value p fits small
