-- A set of nodes: whether it has a node, the set of those where a test holds, and what sets make
-- together.
use Rattle.std.specs.Prelude.{ℕ, zero, suc, ◌+◌, ◌^◌, ◌<◌, ◌==◌, ◌&&◌, ◌||◌, not, Bool, List, count_by, IsTrue, if◌then◌else◌}
use Rattle.std.specs.Int.{bit_at}
use Rattle.std.specs.List.{range_with_len}
use Rattle.cany_base.specs.Limits.{most_nodes}

-- node i is in the set where bit i is 1
pub record Nodes : Type 0 where
  pub bits : ℕ

unfoldable pub has : Nodes → ℕ → Bool
has nodes node = bit_at nodes.bits node == 1

-- the sum of 2 ^ i over the i below n at which the test holds
unfoldable pub bits_where : (ℕ → Bool) → ℕ → ℕ
bits_where test zero = 0
bits_where test (suc n) = bits_where test n + (if test n then 2 ^ n else 0)

-- the set of the nodes, of those that there can be, at which the test holds
unfoldable pub those_where : (ℕ → Bool) → Nodes
those_where test = record { bits = bits_where test most_nodes }

abbrev pub nobody : Nodes
nobody = record { bits = 0 }

-- whether the set has no node
abbrev pub is_nobody : Nodes → Bool
is_nobody nodes = nodes.bits == 0

-- the nodes of both
abbrev pub meet : Nodes → Nodes → Nodes
meet a b = those_where (λ r. has a r && has b r)

-- the nodes of either
abbrev pub plus : Nodes → Nodes → Nodes
plus a b = those_where (λ r. has a r || has b r)

-- the nodes of the first that are not of the second
abbrev pub minus : Nodes → Nodes → Nodes
minus a b = those_where (λ r. has a r && not (has b r))

-- one node more
abbrev pub with_node : ℕ → Nodes → Nodes
with_node q nodes = those_where (λ r. has nodes r || r == q)

-- the numbers of the nodes that there can be, ascending
abbrev pub node_numbers : List ℕ
node_numbers = range_with_len 0 most_nodes

-- how many nodes the set has
abbrev pub node_count : Nodes → ℕ
node_count nodes = count_by (has nodes) node_numbers

-- each node of the set is below the bound
abbrev pub AllBelow : ℕ → Nodes → Type 0
AllBelow bound nodes = (node : ℕ) → IsTrue (has nodes node) → node < bound
