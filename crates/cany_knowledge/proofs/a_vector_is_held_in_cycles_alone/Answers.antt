use Rattle.cany_knowledge.proofs.Vector.{no_vector_after, no_vector_before}
use Rattle.cany_knowledge.proofs.a_vector_is_held_in_cycles_alone.Goals as goal

pub returns : goal.returns
returns c = record { before = no_vector_before; between = no_vector_after }
