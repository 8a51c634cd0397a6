use Rattle.cany_model.proofs.Timed.Guarantees.{one_view_each}
use Rattle.cany_model.proofs.laws.view_agreement.Goals as goal

pub returns : goal.returns
returns c scenario journal legal within = one_view_each scenario legal journal within
