use Rattle.std.proofs.Common.{◌≡◌, ◌≤◌}
use Rattle.std.specs.List.{count_by, range_with_len}
use Rattle.cany_base.specs.Nodes.{has}
use Rattle.cany_base.proofs.node_set.NodeSet.count.Given as goal

abbrev pub invariant-loop-i : goal.invariant-loop-i
invariant-loop-i l = record {
  counted : l.count ≡ count_by (has (record { bits = l.self-inside.bits })) (range_with_len 0 l.i);
  small : l.count ≤ l.i;
}
