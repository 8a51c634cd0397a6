-- The numbers of all nodes in one text, and those of neighbours in it.
use Rattle.std.proofs.Common.{◌≡◌, ℕ, zero, suc, ◌+◌, ◌*◌, ◌-◌, ◌<◌, ◌≤◌, List, [], ◌∷◌, ◌++◌, length, take, drop, refl, sym, ◌∙◌, ap, length-append, append-nil, append_assoc, arith, nat_lt, inl, inr}
use Rattle.std.specs.Prelude.{codes, decimal, if◌then◌else◌}
use Rattle.std.specs.List.{flat_map, range_with_len}
use Rattle.itoa.proofs.Decimal.{decimal_two, length_one, length_two, pair}
use Rattle.std.proofs.lemmas.Bool.{cases_lt, le-ltb, lt-ltb}
use Rattle.std.proofs.lemmas.Fmt.{decimal_digit}
use Rattle.std.proofs.Math.Seq.{take-append_seam, drop-append-add}
use Rattle.std.proofs.lemmas.List.Concat.{flat_map-append}
use Rattle.cany_base.specs.Limits.{most_nodes}
use Rattle.cany_base.specs.Nodes.{node_numbers}
use Rattle.cany_log.specs.Numbers.{with_comma}
use Rattle.cany_text.specs.ReportLines.{numbers_text}

-- ---- with a comma before each

pub numbers_text-cons : (n : ℕ) (ns : List ℕ) → numbers_text (n ∷ ns) ≡ decimal n ++ flat_map with_comma ns
numbers_text-cons n [] = sym (append-nil (decimal n))
numbers_text-cons n (m ∷ ns) = ap (λ r. decimal n ++ (44 ∷ r)) (numbers_text-cons m ns)

-- they are the text after one comma
pub with_commas : (a n : ℕ) → 0 < n → flat_map with_comma (range_with_len a n) ≡ 44 ∷ numbers_text (range_with_len a n)
with_commas a zero some = absurd (omega (arith, some))
with_commas a (suc n) some = ap (λ r. 44 ∷ r) (sym (numbers_text-cons a (range_with_len (a + 1) n)))

pub range_split : (a m n : ℕ) → range_with_len a (m + n) ≡ range_with_len a m ++ range_with_len (a + m) n
range_split a zero n =
    let none : 0 + n ≡ n = omega arith in
    let at : a + 0 ≡ a = omega arith in
    ap (range_with_len a) none ∙ ap (λ k. range_with_len k n) (sym at)
range_split a (suc m) n =
    let more : suc m + n ≡ suc (m + n) = omega arith in
    let e : a + 1 + m ≡ a + suc m = omega arith in
    ap (range_with_len a) more ∙ ap (λ r. a ∷ r) (range_split (a + 1) m n ∙ ap (λ k. range_with_len (a + 1) m ++ range_with_len k n) e)

-- ---- the numbers of all nodes

short_decimal : ℕ → List ℕ
short_decimal n = if nat_lt n 10 then (48 + n) ∷ [] else pair n

short_is : (n : ℕ) → n < 64 → decimal n ≡ short_decimal n
unfolding short_decimal
short_is n few = elim (cases_lt n 10) [
  | inl one ↦ rw (lt-ltb n 10 one) (decimal_digit n one)
  | inr two ↦ rw (le-ltb n 10 two) (decimal_two n two (omega (arith, few)))
]

all_short : (k n : ℕ) → k + n ≤ 64 → flat_map with_comma (range_with_len k n) ≡ flat_map (λ n. 44 ∷ short_decimal n) (range_with_len k n)
all_short k zero few = refl
all_short k (suc n) few =
    ap (λ d. (44 ∷ d) ++ flat_map with_comma (range_with_len (k + 1) n)) (short_is k (omega (arith, few)))
    ∙ ap (λ r. (44 ∷ short_decimal k) ++ r) (all_short (k + 1) n (omega (arith, few)))

abbrev numbers : List ℕ
numbers = codes "0,1,2,3,4,5,6,7,8,9,10,11,12,13,14,15,16,17,18,19,20,21,22,23,24,25,26,27,28,29,30,31,32,33,34,35,36,37,38,39,40,41,42,43,44,45,46,47,48,49,50,51,52,53,54,55,56,57,58,59,60,61,62,63"

short_numbers : flat_map (λ n. 44 ∷ short_decimal n) (range_with_len 0 64) ≡ 44 ∷ numbers
unfolding short_decimal
short_numbers = refl

pub all_numbers : numbers ≡ numbers_text node_numbers
all_numbers = ap (drop 1) (sym short_numbers ∙ sym (all_short 0 64 (omega arith)) ∙ with_commas 0 most_nodes (omega arith))

-- ---- where a number stands

abbrev bytes_before : ℕ → ℕ
bytes_before n = length (flat_map with_comma (range_with_len 0 n))

one_more : (n : ℕ) → bytes_before (suc n) ≡ bytes_before n + (1 + length (decimal n))
one_more n =
    let more : suc n ≡ n + 1 = omega arith in
    let at : 0 + n ≡ n = omega arith in
    let parts : flat_map with_comma (range_with_len 0 (suc n)) ≡ flat_map with_comma (range_with_len 0 n) ++ ((44 ∷ decimal n) ++ []) =
    ap (λ k. flat_map with_comma (range_with_len 0 k)) more ∙ ap (flat_map with_comma) (range_split 0 n 1)
    ∙ flat_map-append with_comma (range_with_len 0 n) (range_with_len (0 + n) 1) ∙ ap (λ k. flat_map with_comma (range_with_len 0 n) ++ ((44 ∷ decimal k) ++ [])) at in
    omega (arith, ap length parts, length-append (flat_map with_comma (range_with_len 0 n)) ((44 ∷ decimal n) ++ []), length-append (44 ∷ decimal n) [])

pub place_low : (n : ℕ) → n ≤ 10 → bytes_before n ≡ 2 * n
place_low zero few = refl
place_low (suc n) few = omega (arith, one_more n, place_low n (omega (arith, few)), length_one n (omega (arith, few)))

from_ten : (k : ℕ) → 10 + k ≤ 64 → bytes_before (10 + k) ≡ 20 + 3 * k
from_ten zero few = place_low 10 (omega arith)
from_ten (suc k) few =
    let more : 10 + suc k ≡ suc (10 + k) = omega arith in
    omega (arith, ap bytes_before more, one_more (10 + k), from_ten k (omega (arith, few)), length_two (10 + k) (omega arith) (omega (arith, few)))

pub place_high : (n : ℕ) → 10 ≤ n → n ≤ 64 → bytes_before n + 10 ≡ 3 * n
place_high n high few =
    let at : 10 + (n - 10) ≡ n = omega (arith, high) in
    omega (arith, from_ten (n - 10) (omega (arith, few)), ap bytes_before at, high)

-- ---- a part of the text

-- the numbers before a, those from a on to below b, and the others
record AreParts (a b : ℕ) : Type 0 where
  up_to : flat_map with_comma (range_with_len 0 b) ≡ flat_map with_comma (range_with_len 0 a) ++ (44 ∷ numbers_text (range_with_len a (b - a)))
  rest : List ℕ
  whole : 44 ∷ numbers_text node_numbers ≡ flat_map with_comma (range_with_len 0 a) ++ (44 ∷ (numbers_text (range_with_len a (b - a)) ++ rest))

split_at : (a b : ℕ) → a ≤ b → flat_map with_comma (range_with_len 0 b) ≡ flat_map with_comma (range_with_len 0 a) ++ flat_map with_comma (range_with_len a (b - a))
split_at a b order =
    let sum_is : b ≡ a + (b - a) = omega (arith, order) in
    let none : 0 + a ≡ a = omega arith in
    ap (λ k. flat_map with_comma (range_with_len 0 k)) sum_is ∙ ap (flat_map with_comma) (range_split 0 a (b - a))
    ∙ flat_map-append with_comma (range_with_len 0 a) (range_with_len (0 + a) (b - a))
    ∙ ap (λ k. flat_map with_comma (range_with_len 0 a) ++ flat_map with_comma (range_with_len k (b - a))) none

parts_of : (a b : ℕ) → a < b → b ≤ 64 → AreParts a b
parts_of a b order few =
    let text = numbers_text (range_with_len a (b - a)) in
    let before = flat_map with_comma (range_with_len 0 a) in
    let rest = flat_map with_comma (range_with_len b (64 - b)) in
    let up_to : flat_map with_comma (range_with_len 0 b) ≡ before ++ (44 ∷ text) =
    split_at a b (omega (arith, order)) ∙ ap (λ r. before ++ r) (with_commas a (b - a) (omega (arith, order))) in
    record {
      up_to = up_to;
      rest = rest;
      whole =
          sym (with_commas 0 most_nodes (omega arith)) ∙ split_at b 64 few
          ∙ ap (λ r. r ++ rest) up_to ∙ append_assoc before (44 ∷ text) rest;
    }

after_first : (xs ys zs : List ℕ) → 44 ∷ xs ≡ ys ++ (44 ∷ zs) → drop (length ys) xs ≡ zs
after_first xs ys zs e =
    let one : length ys + 1 ≡ suc (length ys) = omega arith in
    ap (drop (suc (length ys))) e ∙ ap (λ n. drop n (ys ++ (44 ∷ zs))) (sym one) ∙ drop-append-add ys (44 ∷ zs) 1

-- the numbers of neighbours stand side by side
pub neighbours_text : (a b n : ℕ) → a < b → b ≤ 64 → n ≡ bytes_before b - 1 - bytes_before a
    → take n (drop (bytes_before a) (numbers_text node_numbers)) ≡ numbers_text (range_with_len a (b - a))
neighbours_text a b n order few is =
    let text : List ℕ = numbers_text (range_with_len a (b - a)) in
    let before : List ℕ = flat_map with_comma (range_with_len 0 a) in
    let parts = parts_of a b order few in
    let long : n ≡ length text = omega (arith, is, ap length parts.up_to, length-append before (44 ∷ text)) in
    ap (take n) (after_first (numbers_text node_numbers) before (text ++ parts.rest) parts.whole)
    ∙ ap (λ n. take n (text ++ parts.rest)) long ∙ take-append_seam text parts.rest

-- and there they are
pub neighbours-within : (a b : ℕ) → a < b → b ≤ 64 → (bytes_before a ≤ bytes_before b - 1) × (bytes_before b - 1 ≤ length (numbers_text node_numbers))
neighbours-within a b order few =
    let text : List ℕ = numbers_text (range_with_len a (b - a)) in
    let before : List ℕ = flat_map with_comma (range_with_len 0 a) in
    let parts = parts_of a b order few in
    let up_to = ap length parts.up_to in
    let one = length-append before (44 ∷ text) in (
      omega (arith, up_to, one),
      omega (arith, up_to, one, ap length parts.whole, length-append before (44 ∷ (text ++ parts.rest)), length-append text parts.rest),
    )
