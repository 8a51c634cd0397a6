use Rattle.std.proofs.Common.{◌≡◌, ◌<◌, ◌∙◌, ◌-◌, ◌||◌, ◌==◌, ℕ, sym, ap, length, arith, rules}
use Rattle.std.specs.Prelude.{Ok}
use Rattle.toml.specs.View.{view}
use Rattle.cany_base.specs.Limits.{most_nodes}
use Rattle.cany_base.specs.Nodes.{has}
use Rattle.cany_base.specs.Params.{Parameters}
use Rattle.cany_base.specs.ParamsFields.{parameters_of}
-- no law says how many nodes parameters have in any format
use Rattle.cany_base.proofs.ParamsFacts.{few_nodes}
use Rattle.cany_text.specs.TomlKeys.{number_from}
use Rattle.cany_scenario.proofs.KindsFacts.{from_index}
use Rattle.cany_scenario.proofs.NodesFacts.{joined, joined-none, joined-good, joined-all, AllBelow-insert, AllBelow-none}
use Rattle.cany_scenario.proofs.nodes.each_node.Goals as goal

pub loop-item-init : goal.loop-item-init
loop-item-init c = record {
  stands_for = joined-none c.empty-nodes.result c.empty-nodes.ensures.has _;
  nodes = AllBelow-none c.empty-nodes.result c.empty-nodes.ensures.has;
}

pub loop-item-preserved : goal.loop-item-preserved
loop-item-preserved c =
    let good : number_from 0 (c.args.params.now.nodes - 1) c.args.at (view c.item-item.result) ≡ Ok c.in_ok-number.number = search rules in
    let more : (i : ℕ) → has c.insert.new.self i ≡ (has c.loop-item.nodes i || i == c.in_ok-number.number) = rw c.of_index.ensures at c.insert.ensures.has in
    let few = few_nodes (parameters_of c.params.inside) c.params.invariant in
    let same = ap (λ (p : Parameters). p.nodes) c.params.view_is in
    let small : c.in_ok-number.number < most_nodes = omega (arith, few, same, c.in_ok-number.ensures.in_range.1) in
    record {
      stands_for = c.loop-item.invariant.stands_for ∙
          joined-good (number_from 0 (c.args.params.now.nodes - 1) c.args.at) c.args.items.now c.loop-item.item-index c.item-item.result c.loop-item.nodes c.insert.new.self c.in_ok-number.number
          c.loop-item-test.true c.item-item.is good more;
      nodes = AllBelow-insert c.loop-item.nodes c.insert.new.self c.in_ok-number.number small more c.loop-item.invariant.nodes;
    }

pub returns : goal.returns
returns c =
    let end : c.loop-item.item-index ≡ length c.args.items.now = omega arith in
    sym (c.loop-item.invariant.stands_for ∙ ap (λ i. joined c.loop-item.nodes (from_index (number_from 0 (c.args.params.now.nodes - 1) c.args.at) c.args.items.now i)) end
    ∙ joined-all (number_from 0 (c.args.params.now.nodes - 1) c.args.at) c.args.items.now c.loop-item.nodes c.loop-item.invariant.nodes)
