use Rattle.std.proofs.Common.{sym, ◌∙◌}
use Rattle.std.proofs.lemmas.Bool.{and_parts}
use Rattle.cany_base.specs.Limits.{most_nodes}
use Rattle.cany_base.proofs.NodesFacts.{AllBelow-bits, has_and_not}
use Rattle.cany_base.proofs.SetFacts.{set_where}
use Rattle.cany_base.proofs.node_set.NodeSet.minus.Goals as goal

pub returns-clause-has : goal.returns-clause-has
returns-clause-has c i =
    rw (← c.self.view_is, ← c.o.view_is) (has_and_not c.self.inside.bits c.o.inside.bits i c.self.invariant c.o.invariant)

pub returns-clause-set : goal.returns-clause-set
returns-clause-set c =
    rw (← c.self.view_is, ← c.o.view_is)
    (set_where _ _
    (λ i is. AllBelow-bits most_nodes (record { bits = c.self.inside.bits }) c.self.invariant i
    (and_parts _ _ (sym (has_and_not c.self.inside.bits c.o.inside.bits i c.self.invariant c.o.invariant) ∙ is)).0)
    (λ i. has_and_not c.self.inside.bits c.o.inside.bits i c.self.invariant c.o.invariant))
