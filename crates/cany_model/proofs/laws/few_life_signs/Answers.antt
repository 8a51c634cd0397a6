-- The law is a lemma on every run.
use Rattle.cany_model.proofs.Promises.FewLifeSigns.{few_life_signs}
use Rattle.cany_model.proofs.laws.few_life_signs.Goals as goal

pub returns : goal.returns
returns c = few_life_signs
