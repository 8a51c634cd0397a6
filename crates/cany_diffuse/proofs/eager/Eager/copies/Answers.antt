use Rattle.std.proofs.Common.{refl}
use Rattle.cany_diffuse.specs.Eager.{copies_of}
use Rattle.cany_diffuse.proofs.EagerFacts.{counted}
use Rattle.cany_diffuse.proofs.eager.Eager.copies.Goals as goal

pub returns-clause-copies : goal.returns-clause-copies
unfolding copies_of
returns-clause-copies g c = rw (c.noted.ensures.noted, c.key.ensures, ← c.self.view_is) refl

pub returns-clause-counted : goal.returns-clause-counted
returns-clause-counted g c = rw (← c.self.view_is) (counted c.self.inside.omit c.self.inside.counts c.noted.ensures.once c.noted.ensures.fits)
