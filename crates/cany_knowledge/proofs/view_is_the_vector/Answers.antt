use Rattle.cany_knowledge.proofs.Vector.{view_is}
use Rattle.cany_knowledge.proofs.view_is_the_vector.Goals as goal

pub returns : goal.returns
returns c = view_is
