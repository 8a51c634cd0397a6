use Rattle.std.proofs.Common.{sym, ◌∙◌}
use Rattle.std.proofs.lemmas.Bool.{and_parts}
use Rattle.cany_base.specs.Limits.{most_nodes}
use Rattle.cany_base.proofs.NodesFacts.{AllBelow-bits, has_and}
use Rattle.cany_base.proofs.SetFacts.{set_where}
use Rattle.cany_base.proofs.node_set.NodeSet.meet.Goals as goal

pub returns-clause-has : goal.returns-clause-has
returns-clause-has c i = rw (← c.self.view_is, ← c.o.view_is) (has_and c.self.inside.bits c.o.inside.bits i)

pub returns-clause-set : goal.returns-clause-set
returns-clause-set c =
    rw (← c.self.view_is, ← c.o.view_is)
    (set_where _ _
    (λ i is. AllBelow-bits most_nodes (record { bits = c.self.inside.bits }) c.self.invariant i
    (and_parts _ _ (sym (has_and c.self.inside.bits c.o.inside.bits i) ∙ is)).0)
    (has_and c.self.inside.bits c.o.inside.bits))
