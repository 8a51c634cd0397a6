use Rattle.std.proofs.Common.{◌≡◌, ◌≤◌, length, filter, map, take}
use Rattle.cany_node.specs.Asks.{is_of_node, slot_of}
use Rattle.cany_node.proofs.asks.slots_of.Given as goal

abbrev pub invariant-loop-ask : goal.invariant-loop-ask
invariant-loop-ask l = record {
  same : l.slots.items ≡ map slot_of (filter (is_of_node l.node) (take l.ask-index l.asks));
  few : length l.slots.items ≤ l.ask-index;
}
