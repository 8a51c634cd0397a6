-- Sums over the first nodes.
use Rattle.std.proofs.Common.{◌≡◌, ℕ, zero, suc, ◌+◌, ◌<◌, ◌≤◌, ◌==◌, inl, inr, Bool, true, false, refl, ap, subst, arith}
use Rattle.std.proofs.lemmas.Bool.{cases_eq, ne_eqb}
use Rattle.cany_model.proofs.Among.{one_at_most, one_if}
use Rattle.cany_model.proofs.Timed.Common.Counting.{total}

pub total_both : (f a g b : ℕ → ℕ) (n : ℕ) → ((i : ℕ) → i < n → f i + a i ≤ g i + b i) → total f n + total a n ≤ total g n + total b n
unfolding total
total_both f a g b zero h = omega arith
total_both f a g b (suc n) h =
    let here = h n (omega arith) in
    let rest = total_both f a g b n (λ i below. h i (omega (arith, below))) in
    omega (arith, here, rest)

pub total_most : (f g : ℕ → ℕ) (n : ℕ) → ((i : ℕ) → i < n → f i ≤ g i) → total f n ≤ total g n
unfolding total
total_most f g zero h = omega arith
total_most f g (suc n) h =
    let here = h n (omega arith) in
    let rest = total_most f g n (λ i below. h i (omega (arith, below))) in
    omega (arith, here, rest)

-- where one of them is less, the sum is
pub total_less : (f g : ℕ → ℕ) (n : ℕ) → ((i : ℕ) → i < n → f i ≤ g i) → (one : ℕ) → one < n → f one < g one → total f n < total g n
unfolding total
total_less f g zero h one below less = absurd (omega (arith, below))
total_less f g (suc n) h one below less = elim (cases_eq one n) [
  | inl last ↦
      let here : f n < g n = subst (λ i. f i < g i) last less in
      let rest = total_most f g n (λ i under. h i (omega (arith, under))) in
      omega (arith, here, rest)
  | inr other ↦
      let here = h n (omega arith) in
      let rest = total_less f g n (λ i under. h i (omega (arith, under))) one (omega (arith, below, other)) less in
      omega (arith, here, rest)
]

-- ---- tests

pub one_if_weaker : (a b : Bool) → (a ≡ true → b ≡ true) → one_if a ≤ one_if b
one_if_weaker false b h = omega arith
one_if_weaker true b h = let there = ap one_if (h refl) in omega (arith, there)

pub one_if_true : (a : Bool) → a ≡ true → one_if a ≡ 1
one_if_true a h = ap one_if h

pub one_if_false : (a : Bool) → a ≡ false → one_if a ≡ 0
one_if_false a h = ap one_if h

-- at most one of the first nodes is this one
pub one_named : (k n : ℕ) → total (λ i. one_if (k == i)) n ≤ 1
unfolding total
one_named k zero = omega arith
one_named k (suc n) = elim (cases_eq k n) [
  | inr other ↦ let none = one_if_false (k == n) (ne_eqb k n other) in omega (arith, none, one_named k n)
  | inl last ↦ let none = none_named k n (omega (arith, last)) in omega (arith, none, one_at_most (k == n))
]
  where
    none_named : (j m : ℕ) → m ≤ j → total (λ i. one_if (j == i)) m ≡ 0
    none_named j zero past = refl
    none_named j (suc m) past =
        let none = one_if_false (j == m) (ne_eqb j m (λ same. omega (arith, past, same))) in
        omega (arith, none, none_named j m (omega (arith, past)))
