use Rattle.cany_model.proofs.Timed.Guarantees.{ordered}
use Rattle.cany_model.proofs.laws.total_order.Goals as goal

pub returns : goal.returns
returns c scenario journal few formulas members within = ordered scenario journal few formulas members within
