use Rattle.std.proofs.Common.{◌≡◌, ◌-◌}
use Rattle.toml.specs.View.{items_view}
use Rattle.cany_base.specs.Limits.{most_nodes}
use Rattle.cany_base.specs.Nodes.{AllBelow}
use Rattle.cany_text.specs.TomlKeys.{number_from}
use Rattle.cany_scenario.specs.NodesParts.{each_node}
use Rattle.cany_scenario.proofs.KindsFacts.{from_index}
use Rattle.cany_scenario.proofs.NodesFacts.{joined}
use Rattle.cany_scenario.proofs.nodes.each_node.Given as goal

-- the nodes so far, and those that the items that are left stand for
abbrev pub invariant-loop-item : goal.invariant-loop-item
invariant-loop-item l = record {
  stands_for : each_node l.params l.at (items_view l.items) ≡ joined l.nodes (from_index (number_from 0 (l.params.nodes - 1) l.at) l.items l.item-index);
  nodes : AllBelow most_nodes l.nodes;
}
