use Rattle.std.proofs.Common.{◌≡◌, ◌+◌, ℕ, [], ap, subst, sym, ◌∙◌, arith}
use Rattle.cany_base.specs.Params.{Parameters}
use Rattle.cany_model.specs.Bus.State.{node_at, opening}
use Rattle.can_controller.specs.Controller.{ControllerState}
use Rattle.cany_world.specs.Kept.{IsKeptAs}
use Rattle.cany_world.specs.Places.{AreOfNodes}
use Rattle.cany_world.proofs.OpeningFacts.{first_controller}
use Rattle.cany_world.proofs.PlaceFacts.{none_yet, one_more}
use Rattle.cany_world.proofs.opening.controllers_of.Goals as goal

pub loop-i-init : goal.loop-i-init
loop-i-init c = none_yet _ c.in_ok-controllers.controllers.items c.in_ok-controllers.ensures.items

pub loop-i-preserved : goal.loop-i-preserved
loop-i-preserved c =
    let count : c.from-count.result ≡ c.args.scenario.now.params.nodes = c.from-count.ensures ∙ ap (λ (p : Parameters). p.nodes) (c.params.view_is ∙ c.params-params.ensures.params) in
    let Is : ℕ → ControllerState → Type 0 = λ i x. IsKeptAs c.args.scenario.now [] i (node_at (opening c.args.scenario.now.params.nodes).nodes i) x in
    subst (AreOfNodes Is (c.loop-i.i + 1)) (sym c.in_ok-push.ensures.items)
    (one_more Is c.loop-i.i c.loop-i.controllers.items c.in_ok-controller.controller c.loop-i.invariant
    (first_controller c.args.scenario.now c.loop-i.i c.of_index.result c.waiting_room-room.result c.params-params.result.now c.in_ok-controller.controller
    (omega (arith, count, c.loop-i-test.true)) c.of_index.ensures c.params-params.ensures.params c.waiting_room-room.ensures.room c.in_ok-controller.ensures))

pub returns : goal.returns
returns c =
    let count : c.from-count.result ≡ c.args.scenario.now.params.nodes = c.from-count.ensures ∙ ap (λ (p : Parameters). p.nodes) (c.params.view_is ∙ c.params-params.ensures.params) in
    let all : c.loop-i.i ≡ c.args.scenario.now.params.nodes = omega (arith, count) in
    subst (λ n. AreOfNodes (λ i x. IsKeptAs c.args.scenario.now [] i (node_at (opening c.args.scenario.now.params.nodes).nodes i) x) n c.loop-i.controllers.items) all c.loop-i.invariant
