use Rattle.std.proofs.lemmas.Nat.{or_lt}
use Rattle.cany_base.specs.Limits.{most_nodes}
use Rattle.cany_base.proofs.NodesFacts.{AllBelow-bits, has_or}
use Rattle.cany_base.proofs.SetFacts.{set_where}
use Rattle.cany_base.proofs.node_set.NodeSet.plus.Goals as goal

pub invariant_of-result : goal.invariant_of-result
invariant_of-result c = or_lt most_nodes c.self.inside.bits c.o.inside.bits c.self.invariant c.o.invariant

pub returns-clause-has : goal.returns-clause-has
returns-clause-has c i = rw (← c.self.view_is, ← c.o.view_is) (has_or c.self.inside.bits c.o.inside.bits i)

pub returns-clause-set : goal.returns-clause-set
returns-clause-set c =
    rw (← c.self.view_is, ← c.o.view_is)
    (set_where _ _
    (AllBelow-bits most_nodes _ (or_lt most_nodes c.self.inside.bits c.o.inside.bits c.self.invariant c.o.invariant))
    (has_or c.self.inside.bits c.o.inside.bits))
