use Rattle.std.proofs.Common.{◌≡◌, ◌+◌, ℕ, subst, sym, arith}
use Rattle.cany_node.specs.Node.{NodeParts}
use Rattle.cany_world.specs.Incarnations.{IsBuiltAs}
use Rattle.cany_world.specs.Places.{AreOfNodes}
use Rattle.cany_world.proofs.PlaceFacts.{none_yet, one_more}
use Rattle.cany_world.proofs.incarnations.built.Goals as goal

pub loop-number-init : goal.loop-number-init
loop-number-init c = none_yet _ c.in_ok-nodes.nodes.items c.in_ok-nodes.ensures.items

pub loop-number-preserved : goal.loop-number-preserved
loop-number-preserved c =
    let Is : ℕ → NodeParts → Type 0 = IsBuiltAs c.args.scenario.now c.args.node in
    subst (AreOfNodes Is (c.loop-number.number + 1)) (sym c.in_ok-push.ensures.items)
    (one_more Is c.loop-number.number c.loop-number.nodes.items c.in_ok-incarnation.incarnation c.loop-number.invariant
    (record {
      node = c.in_ok-incarnation.ensures.node;
      inc = c.in_ok-incarnation.ensures.inc;
      stands = c.in_ok-incarnation.ensures.stands;
      waits = c.in_ok-incarnation.ensures.waits;
    }))

pub returns : goal.returns
returns c =
    let all : c.loop-number.number ≡ c.args.count = omega (arith, c.loop-number-test.false, c.loop-number.auto.number-end) in
    subst (λ n. AreOfNodes (IsBuiltAs c.args.scenario.now c.args.node) n c.loop-number.nodes.items) all c.loop-number.invariant
