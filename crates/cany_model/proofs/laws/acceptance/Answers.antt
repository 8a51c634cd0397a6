use Rattle.cany_model.proofs.Timed.Guarantees.{accepted_by_all_or_none}
use Rattle.cany_model.proofs.laws.acceptance.Goals as goal

pub returns : goal.returns
returns c scenario journal few formulas members within = accepted_by_all_or_none scenario journal few formulas members within
