use Rattle.cany_knowledge.proofs.Vector.{vector_is}
use Rattle.cany_knowledge.proofs.vector_is_all_that_was_got.Goals as goal

pub returns : goal.returns
returns c scenario i k past formulas some from to = vector_is scenario i k formulas some past from to
