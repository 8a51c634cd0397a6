use Rattle.cany_base.specs.Limits.{most_nodes}
use Rattle.cany_base.proofs.EmptyFacts.{nobody_counted}
use Rattle.cany_base.proofs.NodesFacts.{AllBelow-bits}
use Rattle.cany_base.proofs.node_set.NodeSet.is_empty.Goals as goal

pub returns-clause-counted : goal.returns-clause-counted
returns-clause-counted c =
    rw (← c.self.view_is)
    (nobody_counted (record { bits = c.self.inside.bits }) (AllBelow-bits most_nodes (record { bits = c.self.inside.bits }) c.self.invariant))
