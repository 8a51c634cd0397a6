use Rattle.cany_crew.proofs.FinishFacts.{unread_test}
use Rattle.cany_crew.proofs.finish.has_unread.Goals as goal

pub returns-then-is_none : goal.returns-then-is_none
returns-then-is_none c =
    unread_test c.args.world.now.scenario c.args.world.now.journal c.args.node c.stopped.result c.is_none.result c.read.result c.trace.result.now
    c.stopped.ensures c.is_none.ensures c.if-is_none.true c.read.ensures c.trace.ensures.newest_first
