use Rattle.cany_node.proofs.AskFacts.{asks_passed, asks_passing}
use Rattle.cany_node.proofs.asks.AskPlan.pass_before.Goals as goal

pub loop-preserved : goal.loop-preserved
loop-preserved c =
    asks_passing c.args.slot c.args.self.now c.loop.self c.take_before.new.self c.loop.invariant (c.take_before.ensures.taken c.loop-test.true)

pub returns : goal.returns
returns c =
    asks_passed c.args.slot c.args.self.now c.loop.self c.take_before.new.self c.loop.invariant (c.take_before.ensures.kept c.loop-test.false)
    (c.take_before.ensures.late c.loop-test.false)
