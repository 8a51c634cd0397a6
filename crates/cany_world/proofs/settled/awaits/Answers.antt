use Rattle.cany_world.proofs.SettledFacts.{data_fits, data_plain}
use Rattle.cany_world.proofs.settled.awaits.Goals as goal

pub waits-requires-clause-class : goal.waits-requires-clause-class
waits-requires-clause-class c = rw c.class.ensures (data_fits c.args.service)

pub waits-requires-clause-plain : goal.waits-requires-clause-plain
waits-requires-clause-plain c = rw c.class.ensures (data_plain c.args.service)
