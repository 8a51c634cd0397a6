use Rattle.cany_check.proofs.Deciding.Accused.{nobody_accused}
use Rattle.cany_check.proofs.laws.accuracy_is_promised.Goals as goal

pub returns : goal.returns
returns c scenario journal = nobody_accused scenario journal
