use Rattle.std.proofs.Common.{◌≡◌, Bool, get_or, refl, ap, sym, subst, ◌∙◌, arith}
use Rattle.std.proofs.lemmas.Option.{slice_get-get_or}
use Rattle.cany_base.specs.declared.actions.Action.{Action}
use Rattle.cany_base.specs.Bounded.{Bounded}
use Rattle.cany_base.specs.Nodes.{has}
use Rattle.can_controller.specs.Controller.{ControllerState}
use Rattle.cany_world.specs.Incarnations.{IncarnationsParts}
use Rattle.cany_world.specs.Resting.{CanAllGo, CanGo, HavePassed}
use Rattle.cany_world.proofs.Idle.PassFacts.{all_passed, can_go_here, none_passed, one_passed}
use Rattle.cany_world.proofs.resting.pass_all.Goals as goal

pub loop-i-init : goal.loop-i-init
loop-i-init c = (none_passed c.args.next c.args.slots c.args.due c.args.controllers.now c.args.nodes.now, refl)

pub pass-requires-clause-go : goal.pass-requires-clause-go
pass-requires-clause-go c =
    let x : ControllerState = get_or c.loop-i.controllers c.loop-i.i c.index-controllers-i.result in
    let v : IncarnationsParts = get_or c.loop-i.nodes c.loop-i.i c.index-nodes-i.result in
    let is_due : has c.args.due c.loop-i.i ≡ c.has-is_due.result = sym (c.has-is_due.ensures ∙ ap (has c.args.due) c.of_index.ensures) in
    subst (λ (b : Bool). CanGo c.args.next c.args.slots b x v c.loop-i.actions) is_due
    (can_go_here c.args.next c.args.slots c.args.due c.loop-i.i c.args.controllers.now c.loop-i.controllers c.args.nodes.now c.loop-i.nodes c.loop-i.invariant.0 x v
    (slice_get-get_or c.loop-i.controllers c.loop-i.i c.index-controllers-i.result (omega (arith, c.loop-i-test.true, c.loop-i.invariant.0.whole)))
    (slice_get-get_or c.loop-i.nodes c.loop-i.i c.index-nodes-i.result (omega (arith, c.loop-i-test.true, c.loop-i.invariant.0.nodes, c.requires.go.count)))
    c.loop-i.actions
    (subst (λ (a : Bounded Action). CanAllGo c.args.next c.args.slots c.args.due c.args.controllers.now c.args.nodes.now a) (sym c.loop-i.invariant.1) c.requires.go))

pub loop-i-preserved : goal.loop-i-preserved
loop-i-preserved c =
    let x : ControllerState = get_or c.loop-i.controllers c.loop-i.i c.index-controllers-i.result in
    let v : IncarnationsParts = get_or c.loop-i.nodes c.loop-i.i c.index-nodes-i.result in
    let is_due : c.has-is_due.result ≡ has c.args.due c.loop-i.i = c.has-is_due.ensures ∙ ap (has c.args.due) c.of_index.ensures in (
      one_passed c.args.next c.args.slots c.args.due c.loop-i.i c.args.controllers.now c.loop-i.controllers c.args.nodes.now c.loop-i.nodes c.loop-i.invariant.0 x v
          (slice_get-get_or c.loop-i.controllers c.loop-i.i c.index-controllers-i.result (omega (arith, c.loop-i-test.true, c.loop-i.invariant.0.whole)))
          (slice_get-get_or c.loop-i.nodes c.loop-i.i c.index-nodes-i.result (omega (arith, c.loop-i-test.true, c.loop-i.invariant.0.nodes, c.requires.go.count)))
          c.pass.new.controller c.pass.new.node
          (subst (λ (b : Bool). HavePassed c.args.next c.args.slots x.stopped b x c.pass.new.controller v c.pass.new.node) is_due c.pass.ensures.passed),
      c.pass.ensures.actions ∙ c.loop-i.invariant.1,
    )

pub returns-clause-passed : goal.returns-clause-passed
returns-clause-passed c =
    all_passed c.args.next c.args.slots c.args.due c.loop-i.i c.args.controllers.now c.loop-i.controllers c.args.nodes.now c.loop-i.nodes c.loop-i.invariant.0
    (omega (arith, c.loop-i-test.false))
