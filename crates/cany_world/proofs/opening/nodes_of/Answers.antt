use Rattle.std.proofs.Common.{◌≡◌, ◌+◌, ℕ, [], ap, subst, sym, ◌∙◌, arith}
use Rattle.cany_base.specs.Params.{Parameters}
use Rattle.cany_model.specs.Bus.State.{node_at, opening}
use Rattle.cany_world.specs.Incarnations.{IncarnationsParts}
use Rattle.cany_world.specs.Kept.{IsKeptAt}
use Rattle.cany_world.specs.Places.{AreOfNodes}
use Rattle.cany_world.proofs.OpeningFacts.{first_incarnations}
use Rattle.cany_world.proofs.PlaceFacts.{none_yet, one_more}
use Rattle.cany_world.proofs.opening.nodes_of.Goals as goal

pub loop-i-init : goal.loop-i-init
loop-i-init c = none_yet _ c.in_ok-nodes.nodes.items c.in_ok-nodes.ensures.items

pub loop-i-preserved : goal.loop-i-preserved
loop-i-preserved c =
    let count : c.from-count.result ≡ c.args.scenario.now.params.nodes = c.from-count.ensures ∙ ap (λ (p : Parameters). p.nodes) (c.behind-scenario.view_is ∙ c.params.ensures.params) in
    let Is : ℕ → IncarnationsParts → Type 0 = λ i v. IsKeptAt c.args.scenario.now [] i (node_at (opening c.args.scenario.now.params.nodes).nodes i) v in
    subst (AreOfNodes Is (c.loop-i.i + 1)) (sym c.in_ok-push.ensures.items)
    (one_more Is c.loop-i.i c.loop-i.nodes.items c.in_ok-node.node c.loop-i.invariant
    (first_incarnations c.args.scenario.now c.loop-i.i c.of_index.result c.in_ok-node.node c.of_index.ensures c.in_ok-node.ensures (omega (arith, count, c.loop-i-test.true))))

pub returns : goal.returns
returns c =
    let count : c.from-count.result ≡ c.args.scenario.now.params.nodes = c.from-count.ensures ∙ ap (λ (p : Parameters). p.nodes) (c.behind-scenario.view_is ∙ c.params.ensures.params) in
    let all : c.loop-i.i ≡ c.args.scenario.now.params.nodes = omega (arith, count) in
    subst (λ n. AreOfNodes (λ i v. IsKeptAt c.args.scenario.now [] i (node_at (opening c.args.scenario.now.params.nodes).nodes i) v) n c.loop-i.nodes.items) all c.loop-i.invariant
