-- The greatest node of a set.
use Rattle.std.proofs.Common.{◌≡◌, ℕ, suc, ◌+◌, ◌*◌, ◌-◌, ◌^◌, ◌<◌, ◌≤◌, ◌==◌, true, sym, ◌∙◌, ap, subst, arith}
use Rattle.std.proofs.Math.Nat.{two-pow-succ}
use Rattle.std.specs.Int.{bit_at}
use Rattle.std.specs.Int.Count.{count_leading_zeros}
use Rattle.std.proofs.lemmas.Nat.Bits.{bit_at_cat_high}
use Rattle.std.proofs.lemmas.Nat.{leading_length}
use Rattle.cany_base.proofs.NodesFacts.{AllBelow-bits, bits-lt}
use Rattle.cany_base.specs.Limits.{most_nodes}
use Rattle.cany_base.specs.Nodes.{AllBelow, Nodes, has}

top_bit : (n j : ℕ) → 2 ^ j ≤ n → n < 2 ^ suc j → bit_at n j ≡ 1
top_bit n j least most =
    let twice : 2 ^ suc j ≡ 2 ^ j + 2 ^ j = two-pow-succ j in
    let split : n ≡ 1 * 2 ^ j + (n - 2 ^ j) = omega (arith, least) in
    let zero_is : j - j ≡ 0 = omega arith in
    ap (λ b. bit_at b j) split ∙ bit_at_cat_high 1 j (n - 2 ^ j) j (omega (arith, least, most, twice)) (omega arith) ∙ ap (bit_at 1) zero_is

-- no node of the set is at the end or after it, and the one before it is in the set
pub record IsEnd (nodes : Nodes) (end : ℕ) : Type 0 where
  pub below : AllBelow end nodes
  pub last : 0 < end → has nodes (end - 1) ≡ true

pub end_is : (nodes : Nodes) (bits : ℕ) → bits ≡ nodes.bits → AllBelow most_nodes nodes → IsEnd nodes (64 - count_leading_zeros 64 bits)
unfolding has
end_is nodes bits is below =
    let (m, counted, short, least) = leading_length 64 bits (omega (arith, is, bits-lt most_nodes nodes below)) in
    let end_m : 64 - count_leading_zeros 64 bits ≡ m = omega (arith, counted) in
    rw end_m (record {
      below = AllBelow-bits m nodes (subst (λ a. a < 2 ^ m) is short);
      last = λ (some : 0 < m).
          let one : suc (m - 1) ≡ m = omega (arith, some) in
          let twice : 2 ^ suc (m - 1) ≡ 2 ^ (m - 1) + 2 ^ (m - 1) = two-pow-succ (m - 1) in
          let same : 2 ^ suc (m - 1) ≡ 2 ^ m = ap (λ k. 2 ^ k) one in
          ap (λ b. bit_at b (m - 1) == 1) (sym is) ∙ ap (λ b. b == 1) (top_bit bits (m - 1) (omega (arith, least, twice, same)) (omega (arith, short, same)));
    })
