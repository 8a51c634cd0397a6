-- Sets that have no node: they are one set, and no node of them is counted.
use Rattle.std.proofs.Common.{◌≡◌, ℕ, zero, suc, ◌<◌, ◌==◌, Bool, true, false, count_by, refl, ap, sym, ◌∙◌, arith}
use Rattle.std.proofs.lemmas.Bool.{eq-eqb, eqb-true}
use Rattle.std.proofs.lemmas.Bool.Decides.{nat_tests}
use Rattle.std.proofs.lemmas.Nat.Bits.{bit_at-zero, bit_at-lt, same_from_bits}
use Rattle.std.specs.Int.{bit_at}
use Rattle.std.specs.List.{range_with_len}
use Rattle.cany_base.specs.Limits.{most_nodes}
use Rattle.cany_base.specs.Nodes.{AllBelow, Nodes, has, is_nobody, nobody, node_count}
use Rattle.cany_base.proofs.NodesFacts.{count_more, has_none}
use Rattle.cany_base.proofs.SetFacts.{same_bits}

pub is_nobody-true : (nodes : Nodes) → is_nobody nodes ≡ true → nodes ≡ nobody
is_nobody-true nodes none = same_bits nodes nobody (eqb-true nodes.bits 0 none)

pub is_nobody-from : (nodes : Nodes) → nodes ≡ nobody → is_nobody nodes ≡ true
is_nobody-from nodes none = eq-eqb nodes.bits 0 (ap (λ (set : Nodes). set.bits) none)

pub some_bits : (nodes : Nodes) → is_nobody nodes ≡ false → 0 < nodes.bits
some_bits nodes some = grind (arith, nat_tests, some)

-- ---- none is counted

none_counted : (test : ℕ → Bool) → ((i : ℕ) → test i ≡ false) → (n : ℕ) → count_by test (range_with_len 0 n) ≡ 0
none_counted test none zero = refl
none_counted test none (suc n) = grind (arith, nat_tests, count_more test n, none_counted test none n, none n)

one_counted : (test : ℕ → Bool) (node : ℕ) → test node ≡ true → (n : ℕ) → node < n → 0 < count_by test (range_with_len 0 n)
one_counted test node holds zero near = omega (arith, near)
one_counted test node holds (suc n) near = grind (arith, nat_tests, count_more test n, holds, one_counted test node holds n, near)

-- where no node is counted no bit is set
bit : (nodes : Nodes) → AllBelow most_nodes nodes → node_count nodes ≡ 0 → (i : ℕ) (b : Bool) → has nodes i ≡ b → bit_at nodes.bits i ≡ 0
unfolding has
bit nodes below none i false is = grind (arith, nat_tests, is, bit_at-lt nodes.bits i)
bit nodes below none i true is = omega (arith, none, one_counted (has nodes) i is most_nodes (below i is))

zero_of_none : (nodes : Nodes) → AllBelow most_nodes nodes → node_count nodes ≡ 0 → nodes.bits ≡ 0
zero_of_none nodes below none = same_from_bits nodes.bits 0 (λ i. bit nodes below none i (has nodes i) refl ∙ sym (bit_at-zero i))

-- no node is counted in the set that has none, and in it alone
pub nobody_counted : (nodes : Nodes) → AllBelow most_nodes nodes → is_nobody nodes ≡ (node_count nodes == 0)
nobody_counted nodes below =
    grind (arith, nat_tests, zero_of_none nodes below, λ (zero_is : nodes.bits ≡ 0). none_counted (has nodes) (λ i. rw (same_bits nodes nobody zero_is) (has_none i)) most_nodes)
