use Rattle.cany_base.proofs.NodesFacts.{has_clear}
use Rattle.cany_base.proofs.node_set.NodeSet.remove.Goals as goal

pub returns : goal.returns
returns c i = rw (← c.self.view_is, ← c.get.ensures.value) (has_clear c.self.inside.bits c.get.result i c.self.invariant c.get.ensures.in_range)
