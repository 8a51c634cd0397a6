-- Sets of nodes: membership after each operation, and when two sets are equal.
use Rattle.std.proofs.Common.{◌≡◌, ◌≢◌, ℕ, zero, suc, ◌+◌, ◌-◌, ◌*◌, ◌%◌, ◌/◌, ◌^◌, ◌<◌, ◌≤◌, ◌==◌, ◌&&◌, ◌||◌, ◌⊎◌, inl, inr, List, [], ◌∷◌, map, min, max, Bool, true, false, not, nat_lt, nat_eq, if◌then◌else◌, IsTrue, refl, ap, sym, ◌∙◌, bit_and, bit_or, w64, arith, add-zero}
use Rattle.std.proofs.Math.Nat.{two-pow-succ}
use Rattle.std.specs.Int.{bit_at, bit_not, trailing_zeros}
use Rattle.std.specs.List.{count_by, sum_by, range_with_len}
use Rattle.std.proofs.lemmas.List.FromFn.{sum_by-map-range_with_len_more}
use Rattle.std.proofs.lemmas.Nat.Bits.{bit_at-zero, bit_at_and, bit_at_or, bit_at_not, bit_at-lt, bit_at_above, bit_at_ones, bit_at_ones_above, bit_at_set_same, bit_at_set_other, bit_at_clear_same, bit_at_clear_other, bit_at_cat_low, bit_at_cat_high, shr_and_one, same_from_bits, bit_at-trailing_zeros}
use Rattle.std.proofs.lemmas.Nat.{pow_pos, mod_below, shr_split}
use Rattle.std.proofs.lemmas.Bool.{cases_lt, cases_eq, cases_order, false≢true, lt-ltb, le-ltb, ltb-true, eq-eqb, ne_eqb}
use Rattle.std.proofs.lemmas.Bool.Decides.{nat_tests}
use Rattle.cany_base.specs.Limits.{most_nodes}
use Rattle.cany_base.specs.Nodes.{Nodes, has, bits_where, those_where, AllBelow}

min_test : (x y : ℕ) → x < 2 → y < 2 → (min x y == 1) ≡ ((x == 1) && (y == 1))
min_test x y hx hy = grind (arith, nat_tests)

max_test : (x y : ℕ) → x < 2 → y < 2 → (max x y == 1) ≡ ((x == 1) || (y == 1))
max_test x y hx hy = grind (arith, nat_tests)

flip_test : (x : ℕ) → x < 2 → ((1 - x) == 1) ≡ not (x == 1)
flip_test x hx = grind (arith, nat_tests)

same_test : (x y : ℕ) → x < 2 → y < 2 → (x == 1) ≡ (y == 1) → x ≡ y
same_test x y hx hy e = grind (arith, nat_tests)

-- the empty set
pub has_none : (i : ℕ) → has (record { bits = 0 }) i ≡ false
unfolding has
has_none i = rw bit_at-zero refl

-- the test of one bit
pub has_test : (a k : ℕ) → nat_eq (bit_and (a / 2 ^ k) 1) 1 ≡ has (record { bits = a }) k
unfolding has
has_test a k = rw shr_and_one refl

pub has_from_test : (a k : ℕ) → bit_and (a / 2 ^ k) 1 ≡ 1 → has (record { bits = a }) k ≡ true
has_from_test a k e = sym (has_test a k) ∙ eq-eqb (bit_and (a / 2 ^ k) 1) 1 e

pub has_not_from_test : (a k : ℕ) → bit_and (a / 2 ^ k) 1 ≢ 1 → has (record { bits = a }) k ≡ false
has_not_from_test a k e = sym (has_test a k) ∙ ne_eqb (bit_and (a / 2 ^ k) 1) 1 e

pub has_and : (a b i : ℕ) → has (record { bits = bit_and a b }) i ≡ (has (record { bits = a }) i && has (record { bits = b }) i)
unfolding has
has_and a b i = rw bit_at_and (min_test (bit_at a i) (bit_at b i) (bit_at-lt a i) (bit_at-lt b i))

pub has_or : (a b i : ℕ) → has (record { bits = bit_or a b }) i ≡ (has (record { bits = a }) i || has (record { bits = b }) i)
unfolding has
has_or a b i = rw bit_at_or (max_test (bit_at a i) (bit_at b i) (bit_at-lt a i) (bit_at-lt b i))

-- a set of n bits has no node from n on
has_above : (a n i : ℕ) → a < 2 ^ n → n ≤ i → has (record { bits = a }) i ≡ false
unfolding has
has_above a n i small far = let e : bit_at a i ≡ 0 = bit_at_above a n i small far in rw e refl

has_not : (a i : ℕ) → a < 2 ^ most_nodes → i < most_nodes → has (record { bits = bit_not w64 a }) i ≡ not (has (record { bits = a }) i)
unfolding has
has_not a i small near =
    let e : bit_at (bit_not w64 a) i ≡ 1 - bit_at a i = bit_at_not w64 a i small near in
    rw e (flip_test (bit_at a i) (bit_at-lt a i))

pub has_and_not : (a b i : ℕ) → a < 2 ^ most_nodes → b < 2 ^ most_nodes → has (record { bits = bit_and a (bit_not w64 b) }) i ≡ (has (record { bits = a }) i && not (has (record { bits = b }) i))
has_and_not a b i ha hb = elim (cases_lt i most_nodes) [
  | inl near ↦ has_and a (bit_not w64 b) i ∙ ap (λ t. has (record { bits = a }) i && t) (has_not b i hb near)
  | inr far ↦
      let e : has (record { bits = a }) i ≡ false = has_above a most_nodes i ha far in
      has_and a (bit_not w64 b) i ∙ rw e refl
]

set_here : (x y i k : ℕ) → x ≡ 1 → i ≡ k → (x == 1) ≡ ((y == 1) || (i == k))
set_here x y i k one at = grind (arith, nat_tests)

set_there : (x y i k : ℕ) → x ≡ y → i ≢ k → (x == 1) ≡ ((y == 1) || (i == k))
set_there x y i k same other = grind (arith, nat_tests)

clear_here : (x y i k : ℕ) → x ≡ 0 → i ≡ k → (x == 1) ≡ ((y == 1) && not (i == k))
clear_here x y i k none at = grind (arith, nat_tests)

clear_there : (x y i k : ℕ) → x ≡ y → i ≢ k → (x == 1) ≡ ((y == 1) && not (i == k))
clear_there x y i k same other = grind (arith, nat_tests)

pub has_set : (a k i : ℕ) → k < most_nodes → has (record { bits = bit_or a (1 * 2 ^ k % 2 ^ most_nodes) }) i ≡ (has (record { bits = a }) i || i == k)
unfolding has
has_set a k i near = elim (cases_eq i k) [
  | inl at ↦
      let one : bit_at (bit_or a (1 * 2 ^ k % 2 ^ most_nodes)) i ≡ 1 = rw at (bit_at_set_same w64 a k near) in
      set_here _ (bit_at a i) i k one at
  | inr other ↦ set_there _ (bit_at a i) i k (bit_at_set_other w64 a k near i other) other
]

clear_near : (a k i : ℕ) → k < most_nodes → i < most_nodes → has (record { bits = bit_and a (bit_not w64 (1 * 2 ^ k % 2 ^ most_nodes)) }) i ≡ (has (record { bits = a }) i && not (i == k))
unfolding has
clear_near a k i near low = elim (cases_eq i k) [
  | inl at ↦
      let none : bit_at (bit_and a (bit_not w64 (1 * 2 ^ k % 2 ^ most_nodes))) i ≡ 0 = rw at (bit_at_clear_same w64 a k near) in
      clear_here _ (bit_at a i) i k none at
  | inr other ↦ clear_there _ (bit_at a i) i k (bit_at_clear_other w64 a k near i low other) other
]

pub has_clear : (a k i : ℕ) → a < 2 ^ most_nodes → k < most_nodes → has (record { bits = bit_and a (bit_not w64 (1 * 2 ^ k % 2 ^ most_nodes)) }) i ≡ (has (record { bits = a }) i && not (i == k))
has_clear a k i small near = elim (cases_lt i most_nodes) [
  | inl low ↦ clear_near a k i near low
  | inr far ↦
      let e : has (record { bits = a }) i ≡ false = has_above a most_nodes i small far in
      has_and a (bit_not w64 (1 * 2 ^ k % 2 ^ most_nodes)) i ∙ rw e refl
]

ones_here : (x i k : ℕ) → x ≡ 1 → i < k → (x == 1) ≡ nat_lt i k
ones_here x i k one below = grind (arith, nat_tests)

ones_there : (x i k : ℕ) → x ≡ 0 → k ≤ i → (x == 1) ≡ nat_lt i k
ones_there x i k none above = grind (arith, nat_tests)

-- the numbers below k
pub has_ones : (k i : ℕ) → has (record { bits = 2 ^ k - 1 }) i ≡ nat_lt i k
unfolding has
has_ones k i = elim (cases_lt i k) [
  | inl below ↦ ones_here _ i k (bit_at_ones k i below) below
  | inr above ↦ ones_there _ i k (bit_at_ones_above k i above) above
]

-- a set that is not empty has the node of its lowest 1, and none before it
pub has_lowest : (a : ℕ) → 0 < a → a < 2 ^ most_nodes → IsTrue (has (record { bits = a }) (trailing_zeros w64 a))
unfolding has
has_lowest a some small = rw (bit_at-trailing_zeros w64 a some small).1 refl

pub below_lowest : (a i : ℕ) → 0 < a → a < 2 ^ most_nodes → IsTrue (has (record { bits = a }) i) → trailing_zeros w64 a ≤ i
unfolding has
below_lowest a i some small h = elim (cases_lt i (trailing_zeros w64 a)) [
  | inl before ↦
      let none : bit_at a i ≡ 0 = (bit_at-trailing_zeros w64 a some small).2 i before in
      absurd (false≢true (rw none at h))
  | inr after ↦ after
]

-- two sets with the same nodes are equal
pub same_nodes : (a b : Nodes) → ((i : ℕ) → has a i ≡ has b i) → a ≡ b
unfolding has
same_nodes a b same =
    let e : a.bits ≡ b.bits = same_from_bits a.bits b.bits (λ i. same_test (bit_at a.bits i) (bit_at b.bits i) (bit_at-lt a.bits i) (bit_at-lt b.bits i) (same i)) in
    λ i. record { bits = e i }

-- one more place
bits_where_low : (b n i : ℕ) (t : Bool) → i < n → bit_at (b + (if t then 2 ^ n else 0)) i ≡ bit_at b i
bits_where_low b n i true below = let e : b + 2 ^ n ≡ 1 * 2 ^ n + b = omega arith in rw e (bit_at_cat_low 1 n b i below)
bits_where_low b n i false below = rw add-zero refl

bits_where_at : (b n : ℕ) (t : Bool) → b < 2 ^ n → bit_at (b + (if t then 2 ^ n else 0)) n ≡ (if t then 1 else 0)
bits_where_at b n true small =
    let e : b + 2 ^ n ≡ 1 * 2 ^ n + b = omega arith in
    let d : n - n ≡ 0 = omega arith in
    rw e (bit_at_cat_high 1 n b n small (omega arith) ∙ ap (bit_at 1) d)
bits_where_at b n false small = rw add-zero (bit_at_above b n n small (omega arith))

bits_where_small : (b n : ℕ) (t : Bool) → b < 2 ^ n → b + (if t then 2 ^ n else 0) < 2 ^ suc n
bits_where_small b n true small = rw two-pow-succ (omega arith)
bits_where_small b n false small = rw two-pow-succ (omega arith)

pub bits_where-lt : (test : ℕ → Bool) (n : ℕ) → bits_where test n < 2 ^ n
unfolding bits_where
bits_where-lt test zero = omega arith
bits_where-lt test (suc n) = bits_where_small (bits_where test n) n (test n) (bits_where-lt test n)

one_test : (t : Bool) (x : ℕ) → x ≡ (if t then 1 else 0) → (x == 1) ≡ t
one_test true x e = rw e refl
one_test false x e = rw e refl

low_test : (i n : ℕ) (t : Bool) → i < n → (nat_lt i n && t) ≡ (nat_lt i (suc n) && t)
low_test i n t below = rw (lt-ltb i n below, lt-ltb i (suc n) (omega arith)) refl

at_test : (i n : ℕ) (t : Bool) → i ≡ n → t ≡ (nat_lt i (suc n) && t)
at_test i n t at = rw (lt-ltb i (suc n) (omega arith)) refl

high_test : (i n : ℕ) (t : Bool) → n ≤ i → false ≡ (nat_lt i n && t)
high_test i n t above = rw (le-ltb i n above) refl

has-bits_where : (test : ℕ → Bool) (n i : ℕ) → has (record { bits = bits_where test n }) i ≡ (nat_lt i n && test i)
unfolding has bits_where
has-bits_where test zero i = rw (bit_at-zero i) (high_test i 0 (test i) (omega arith))
has-bits_where test (suc n) i = elim (cases_order i n) [
  | inl at ↦
      let here : bit_at (bits_where test n + (if test n then 2 ^ n else 0)) i ≡ (if test i then 1 else 0) = rw at (bits_where_at (bits_where test n) n (test n) (bits_where-lt test n)) in
      one_test (test i) _ here ∙ at_test i n (test i) at
  | inr (inl below) ↦
      ap (λ b. b == 1) (bits_where_low (bits_where test n) n i (test n) below) ∙ has-bits_where test n i ∙ low_test i n (test i) below
  | inr (inr above) ↦
      let none : bit_at (bits_where test n + (if test n then 2 ^ n else 0)) i ≡ 0 = bit_at_above _ (suc n) i (bits_where-lt test (suc n)) above in
      ap (λ b. b == 1) none ∙ high_test i (suc n) (test i) above
]

-- the set of those where the test holds has the nodes, of those that there can be, at which it
-- holds
pub has-those_where : (test : ℕ → Bool) (i : ℕ) → has (those_where test) i ≡ (nat_lt i most_nodes && test i)
unfolding those_where
has-those_where test i = has-bits_where test most_nodes i

bits_where-ext : (p q : ℕ → Bool) (n : ℕ) → ((i : ℕ) → i < n → p i ≡ q i) → bits_where p n ≡ bits_where q n
unfolding bits_where
bits_where-ext p q zero same = refl
bits_where-ext p q (suc n) same =
    let rest : bits_where p n ≡ bits_where q n = bits_where-ext p q n (λ i h. same i (omega arith)) in
    rw (rest, same n (omega arith)) refl

-- tests that agree at the nodes that there can be give one set
pub those_where-ext : (p q : ℕ → Bool) → ((i : ℕ) → i < most_nodes → p i ≡ q i) → those_where p ≡ those_where q
unfolding those_where
those_where-ext p q same = ap (λ b. record { bits = b }) (bits_where-ext p q most_nodes same)

-- a set of n bits has only nodes below n
pub AllBelow-bits : (n : ℕ) (nodes : Nodes) → nodes.bits < 2 ^ n → AllBelow n nodes
AllBelow-bits n nodes small i h = elim (cases_lt i n) [
  | inl below ↦ below
  | inr above ↦ absurd (false≢true (sym (has_above nodes.bits n i small above) ∙ h))
]

no_bit : (nodes : Nodes) (i : ℕ) → ¬ IsTrue (has nodes i) → bit_at nodes.bits i ≡ 0
unfolding has
no_bit nodes i none = elim (cases_eq (bit_at nodes.bits i) 1) [
  | inl one ↦ absurd (none (rw one refl))
  | inr other ↦ omega (arith, bit_at-lt nodes.bits i)
]

-- and a set of nodes below n has n bits
pub bits-lt : (n : ℕ) (nodes : Nodes) → AllBelow n nodes → nodes.bits < 2 ^ n
bits-lt n nodes below =
    let low : nodes.bits % 2 ^ n < 2 ^ n = mod_below nodes.bits (2 ^ n) (pow_pos n) in
    let same : nodes.bits ≡ nodes.bits % 2 ^ n = same_from_bits nodes.bits (nodes.bits % 2 ^ n) (λ i. at low i (cases_lt i n)) in
    omega arith
  where
    at : nodes.bits % 2 ^ n < 2 ^ n → (i : ℕ) → (i < n) ⊎ (n ≤ i) → bit_at nodes.bits i ≡ bit_at (nodes.bits % 2 ^ n) i
    at low i (inl near) = ap (λ b. bit_at b i) (sym (shr_split nodes.bits n)) ∙ bit_at_cat_low (nodes.bits / 2 ^ n) n (nodes.bits % 2 ^ n) i near
    at low i (inr far) =
        no_bit nodes i (λ h. let near : i < n = below i h in omega arith)
        ∙ sym (bit_at_above (nodes.bits % 2 ^ n) n i low far)

map_same : (xs : List ℕ) → map (λ x. x) xs ≡ xs
map_same [] = refl
map_same (x ∷ xs) = ap (λ r. x ∷ r) (map_same xs)

-- the count over one more number
pub count_more : (test : ℕ → Bool) (n : ℕ) → count_by test (range_with_len 0 (n + 1)) ≡ count_by test (range_with_len 0 n) + (if test n then 1 else 0)
count_more test n =
    let g : ℕ → ℕ = λ x. if test x then 1 else 0 in
    sym (ap (sum_by g) (map_same (range_with_len 0 (n + 1)))) ∙ sum_by-map-range_with_len_more g (λ x. x) 0 n n (omega arith) ∙ ap (λ xs. sum_by g xs + g n) (map_same (range_with_len 0 n))

-- a set that has just the nodes, of those that there can be, at which the test holds
pub same_as_those_where : (nodes : Nodes) (test : ℕ → Bool) → ((i : ℕ) → has nodes i ≡ (nat_lt i most_nodes && test i)) → nodes ≡ those_where test
same_as_those_where nodes test same = same_nodes nodes (those_where test) (λ i. same i ∙ sym (has-those_where test i))

-- a set of the numbers below a bound
pub AllBelow-ones : (nodes : Nodes) (bound : ℕ) → ((i : ℕ) → has nodes i ≡ nat_lt i bound) → AllBelow bound nodes
AllBelow-ones nodes bound same i h = ltb-true i bound (sym (same i) ∙ h)
