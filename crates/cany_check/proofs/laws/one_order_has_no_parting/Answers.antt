use Rattle.cany_base.proofs.ParamsFacts.{few_nodes}
use Rattle.cany_check.proofs.Deciding.OrderOfRun.{nobody_parts}
use Rattle.cany_check.proofs.laws.one_order_has_no_parting.Goals as goal

pub returns : goal.returns
returns c scenario journal legal one = nobody_parts scenario journal (few_nodes scenario.params legal.in_range) one
