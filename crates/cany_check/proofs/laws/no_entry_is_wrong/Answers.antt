use Rattle.cany_base.proofs.ParamsFacts.{few_nodes}
use Rattle.cany_check.proofs.Deciding.IntegrityOfRun.{nothing_wrong}
use Rattle.cany_check.proofs.laws.no_entry_is_wrong.Goals as goal

pub returns : goal.returns
returns c scenario journal legal = nothing_wrong scenario journal (few_nodes scenario.params legal.in_range)
