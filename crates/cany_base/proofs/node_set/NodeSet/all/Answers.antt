-- `1 << nodes` less 1, and the greatest number where all nodes are there.
use Rattle.std.proofs.Common.{◌≡◌, ℕ, ◌-◌, ◌*◌, ◌^◌, ◌%◌, ◌<◌, ◌≤◌, nat_lt, arith}
use Rattle.std.proofs.Math.Nat.{mod-eq_of_lt}
use Rattle.std.proofs.Math.Pow.{pow-lt}
use Rattle.cany_base.specs.Limits.{most_nodes}
use Rattle.cany_base.specs.Nodes.{has}
use Rattle.cany_base.proofs.NodesFacts.{has_ones, AllBelow-ones}
use Rattle.cany_base.proofs.node_set.NodeSet.all.Goals as goal

shifted : (n : ℕ) → n < most_nodes → 1 * 2 ^ n % 2 ^ most_nodes ≡ 2 ^ n
shifted n h =
    let e : 1 * 2 ^ n ≡ 2 ^ n = omega arith in
    let small : 2 ^ n < 2 ^ most_nodes = pow-lt h in
    rw e (mod-eq_of_lt small)

has_shifted : (n : ℕ) → n < most_nodes → (i : ℕ) → has (record { bits = 1 * 2 ^ n % 2 ^ most_nodes - 1 }) i ≡ nat_lt i n
has_shifted n h i = rw (shifted n h) (has_ones n i)

has_full : (n : ℕ) → n ≤ most_nodes → most_nodes ≤ n → (i : ℕ) → has (record { bits = 2 ^ most_nodes - 1 }) i ≡ nat_lt i n
has_full n h g i = let e : n ≡ most_nodes = omega arith in rw e (has_ones most_nodes i)

pub returns-then-nodes-lt-COUNT : goal.returns-then-nodes-lt-COUNT
returns-then-nodes-lt-COUNT c = record {
  has = has_shifted c.args.nodes c.if-nodes-lt-COUNT.true;
  below = AllBelow-ones _ c.args.nodes (has_shifted c.args.nodes c.if-nodes-lt-COUNT.true);
}

pub returns-else-nodes-lt-COUNT : goal.returns-else-nodes-lt-COUNT
returns-else-nodes-lt-COUNT c = record {
  has = has_full c.args.nodes c.requires c.if-nodes-lt-COUNT.false;
  below = AllBelow-ones _ c.args.nodes (has_full c.args.nodes c.requires c.if-nodes-lt-COUNT.false);
}
