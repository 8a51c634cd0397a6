use Rattle.cany_model.proofs.Timed.Safety.{safe}
use Rattle.cany_model.proofs.laws.safety.Goals as goal

pub returns : goal.returns
returns c scenario journal legal within = safe scenario legal journal within
