use Rattle.cany_world.proofs.UnsettledFacts.{format_at}
use Rattle.cany_world.proofs.settled.is_awaited.Goals as goal

pub awaits-requires-clause-format : goal.awaits-requires-clause-format
awaits-requires-clause-format c =
    format_at c.args.format c.args.controllers.now c.loop-i.i c.index-controllers-i.result c.requires.format c.loop-i-test.true c.index-controllers-i.is
