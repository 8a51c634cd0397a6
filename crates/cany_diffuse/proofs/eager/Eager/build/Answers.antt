use Rattle.cany_diffuse.proofs.EagerFacts.{IsFresh-build}
use Rattle.cany_diffuse.proofs.eager.Eager.build.Goals as goal

pub returns : goal.returns
returns g c = rw c.in_ok-counts.ensures (IsFresh-build c.args.omit c.args.room)
