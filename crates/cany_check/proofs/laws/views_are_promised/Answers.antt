use Rattle.cany_check.proofs.Deciding.ViewsOfRun.{none_apart}
use Rattle.cany_check.proofs.laws.views_are_promised.Goals as goal

pub returns : goal.returns
returns c scenario journal = none_apart scenario journal
