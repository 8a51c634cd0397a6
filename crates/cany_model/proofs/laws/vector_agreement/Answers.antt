use Rattle.cany_model.proofs.Timed.Guarantees.{one_vector_each}
use Rattle.cany_model.proofs.laws.vector_agreement.Goals as goal

pub returns : goal.returns
returns c scenario journal legal within = one_vector_each scenario legal journal within
