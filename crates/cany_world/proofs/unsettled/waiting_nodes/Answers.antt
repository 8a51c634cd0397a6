use Rattle.std.proofs.Common.{arith}
use Rattle.cany_model.specs.Rules.Messages.{frames_named}
use Rattle.can_bus.proofs.SetFacts.{so_far_none}
use Rattle.cany_world.proofs.UnsettledFacts.{format_at, waiting_all, waiting_more}
use Rattle.cany_world.proofs.unsettled.waiting_nodes.Goals as goal

pub awaits-requires-clause-format : goal.awaits-requires-clause-format
awaits-requires-clause-format c =
    format_at c.args.format c.args.controllers.now c.loop-i.i c.index-controllers-i.result c.requires.format c.loop-i-test.true c.index-controllers-i.is

pub loop-i-preserved : goal.loop-i-preserved
loop-i-preserved c scenario journal are =
    waiting_more scenario journal (frames_named c.args.service c.args.key.now) c.args.controllers.now are _ _ c.loop-i.i c.index-controllers-i.result _
    c.loop-i-test.true c.index-controllers-i.is (c.loop-i.invariant scenario journal are) c.insert_if.ensures c.awaits.ensures

pub loop-i-init : goal.loop-i-init
loop-i-init c scenario journal are = so_far_none _ _ c.empty-set.ensures.set

pub returns : goal.returns
returns c scenario journal are =
    waiting_all scenario journal (frames_named c.args.service c.args.key.now) c.args.controllers.now are _ c.loop-i.i (omega arith) c.loop-i-test.false (c.loop-i.invariant scenario journal are)
