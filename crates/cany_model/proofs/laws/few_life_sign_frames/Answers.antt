use Rattle.cany_model.proofs.Timed.Guarantees.{signs_are_few}
use Rattle.cany_model.proofs.laws.few_life_sign_frames.Goals as goal

pub returns : goal.returns
returns c scenario journal few formulas members within = signs_are_few scenario journal few formulas members within
