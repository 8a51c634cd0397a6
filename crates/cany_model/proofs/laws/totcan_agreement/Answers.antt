use Rattle.cany_model.proofs.Timed.Guarantees.{tot_agrees}
use Rattle.cany_model.proofs.laws.totcan_agreement.Goals as goal

pub returns : goal.returns
returns c scenario journal few formulas members within = tot_agrees scenario journal few formulas members within
