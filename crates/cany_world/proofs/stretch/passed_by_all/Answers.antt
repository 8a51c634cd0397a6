use Rattle.std.proofs.Common.{refl, arith}
use Rattle.std.proofs.lemmas.Option.{slice_get_within}
use Rattle.cany_world.proofs.Idle.PassFacts.{pass_below_next}
use Rattle.cany_world.proofs.PlaceFacts.{found}
use Rattle.cany_world.proofs.stretch.passed_by_all.Goals as goal

pub loop-i-preserved : goal.loop-i-preserved
loop-i-preserved c = (
  omega (arith, c.loop-i.invariant.0, c.narrowed-stretch.ensures.few),
  pass_below_next c.args.next c.loop-i.stretch.slots c.loop-i.stretch.due c.narrowed-stretch.result.slots c.narrowed-stretch.result.due c.loop-i.i c.passed_by-slots.result
      c.args.controllers.now c.args.nodes.now c.index-controllers-i.result c.index-nodes-i.result c.loop-i.invariant.1 c.narrowed-stretch.ensures.others
      (found c.args.controllers.now c.args.controllers.now c.loop-i.i c.loop-i.i c.index-controllers-i.result refl refl
      (omega (arith, c.loop-i-test.true)) c.index-controllers-i.is)
      (found c.args.nodes.now c.args.nodes.now c.loop-i.i c.loop-i.i c.index-nodes-i.result refl refl
      (omega (arith, c.loop-i-test.true, c.requires.count)) c.index-nodes-i.is)
      c.passed_by-slots.ensures c.narrowed-stretch.ensures.here,
)

pub returns-clause-passes : goal.returns-clause-passes
returns-clause-passes c i x v at node_at =
    c.loop-i.invariant.1 i x v (omega (arith, slice_get_within c.args.controllers.now i x at, c.loop-i-test.false)) at node_at
