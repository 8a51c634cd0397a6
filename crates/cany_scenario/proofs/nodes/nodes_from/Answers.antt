use Rattle.std.proofs.Common.{◌≡◌, ◌∙◌, sym, Some, true, false, rules}
use Rattle.toml.specs.Data.{as_array}
use Rattle.toml.specs.View.{view, items_view}
use Rattle.cany_scenario.specs.NodesParts.{are_integers}
use Rattle.cany_scenario.proofs.NodesFacts.{nodes_from-integers, nodes_from-others}
use Rattle.cany_scenario.proofs.nodes.nodes_from.Goals as goal

pub returns-then-not-are_integers : goal.returns-then-not-are_integers
returns-then-not-are_integers c =
    let is : as_array (view c.args.value.now) ≡ Some (items_view c.in_ok-items.items.now.items) = search rules in
    let none : are_integers c.in_ok-items.items.now.items ≡ false = sym (rw c.deref.ensures.value at c.are_integers.ensures) ∙ c.if-not-are_integers.true in
    rw c.wrong_kind-then-not-are_integers.ensures (sym (nodes_from-others c.args.params.now c.args.at (view c.args.value.now) c.in_ok-items.items.now.items is none))

pub returns : goal.returns
returns c =
    let is : as_array (view c.args.value.now) ≡ Some (items_view c.in_ok-items.items.now.items) = search rules in
    let all : are_integers c.in_ok-items.items.now.items ≡ true = sym (rw c.deref.ensures.value at c.are_integers.ensures) ∙ c.if-not-are_integers.false in
    (rw c.deref-2.ensures.value at c.each_node.ensures)
    ∙ sym (nodes_from-integers c.args.params.now c.args.at (view c.args.value.now) c.in_ok-items.items.now.items is all)
