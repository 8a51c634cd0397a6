use Rattle.cany_log.proofs.RunFacts.{end_is}
use Rattle.cany_log.proofs.neighbours.end_of_set.Goals as goal

pub returns-clause-below : goal.returns-clause-below
returns-clause-below c = (end_is c.args.set c.bits.result c.bits.ensures.bits c.bits.ensures.below).below

pub returns-clause-last : goal.returns-clause-last
returns-clause-last c = (end_is c.args.set c.bits.result c.bits.ensures.bits c.bits.ensures.below).last
