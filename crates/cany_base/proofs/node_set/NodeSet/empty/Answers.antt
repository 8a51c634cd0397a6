use Rattle.cany_base.proofs.NodesFacts.{has_none}
use Rattle.cany_base.proofs.node_set.NodeSet.empty.Goals as goal

pub returns-clause-has : goal.returns-clause-has
returns-clause-has c i = has_none i
