use Rattle.std.proofs.Common.{arith}
use Rattle.cany_world.proofs.Idle.PassFacts.{fewer_pass, passes_early}
use Rattle.cany_world.proofs.stretch.next_stretch.Goals as goal

pub returns-then-slots-stretch-clause-free : goal.returns-then-slots-stretch-clause-free
returns-then-slots-stretch-clause-free c scenario same also slot from below =
    c.free_slots-slots.ensures.free scenario same also slot from (omega (arith, below, c.if-slots-stretch.true))

pub returns-clause-passes : goal.returns-clause-passes
returns-clause-passes c some i x v at node_at =
    fewer_pass c.args.next _ _ x v
    (passes_early c.free_slots-slots.result c.passed_by_all-stretch.result.slots c.empty-2.result c.passed_by_all-stretch.result.due i
    (omega (arith, c.free_slots-slots.ensures.few, c.if-slots-stretch.false)) (c.empty-2.ensures.has i))
    (c.passed_by_all-stretch.ensures.passes i x v at node_at)
