use Rattle.cany_model.proofs.Timed.Windows.FewVectors.{few_vectors}
use Rattle.cany_model.proofs.laws.few_vector_frames.Goals as goal

pub returns : goal.returns
returns c scenario journal few formulas members = few_vectors scenario journal few formulas members
