use Rattle.can_arbiter.proofs.WalkFacts.{walk_leaves}
use Rattle.can_arbiter.proofs.laws.walk_leaves_least.Goals as goal

pub returns : goal.returns
returns c = walk_leaves
