use Rattle.cany_base.proofs.NodesFacts.{has_test}
use Rattle.cany_base.proofs.node_set.NodeSet.has.Goals as goal

pub returns : goal.returns
returns c = rw (← c.self.view_is, ← c.get.ensures.value) (has_test c.self.inside.bits c.get.result)
