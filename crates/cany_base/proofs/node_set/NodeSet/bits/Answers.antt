use Rattle.cany_base.specs.Limits.{most_nodes}
use Rattle.cany_base.proofs.NodesFacts.{AllBelow-bits}
use Rattle.cany_base.proofs.node_set.NodeSet.bits.Goals as goal

pub returns-clause-below : goal.returns-clause-below
returns-clause-below c = rw (← c.self.view_is) (AllBelow-bits most_nodes (record { bits = c.self.inside.bits }) c.self.invariant)
