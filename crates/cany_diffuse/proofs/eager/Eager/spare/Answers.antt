use Rattle.cany_diffuse.proofs.EagerFacts.{counted, spare-kept}
use Rattle.cany_diffuse.proofs.eager.Eager.spare.Goals as goal

pub returns-clause-spare : goal.returns-clause-spare
returns-clause-spare g c = rw (← c.self.view_is) (spare-kept c.self.inside.omit c.self.inside.counts c.spare.result c.spare.ensures.spare)

pub returns-clause-counted : goal.returns-clause-counted
returns-clause-counted g c = rw (← c.self.view_is) (counted c.self.inside.omit c.self.inside.counts c.spare.ensures.once c.spare.ensures.fits)
