use Rattle.cany_model.proofs.Promises.Integrity.{integral}
use Rattle.cany_model.proofs.laws.integrity.Goals as goal

pub returns : goal.returns
returns c = integral
