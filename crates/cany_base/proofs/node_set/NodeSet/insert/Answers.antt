use Rattle.std.proofs.Common.{arith, ◌<◌, ◌*◌, ◌%◌, ◌^◌}
use Rattle.std.proofs.lemmas.Nat.{or_lt}
use Rattle.cany_base.specs.Limits.{most_nodes}
use Rattle.cany_base.proofs.NodesFacts.{AllBelow-bits, has_set}
use Rattle.cany_base.proofs.SetFacts.{set_where}
use Rattle.cany_base.proofs.node_set.NodeSet.insert.Goals as goal

pub invariant_of-self : goal.invariant_of-self
invariant_of-self c =
    let one : 1 * 2 ^ c.get.result % 2 ^ most_nodes < 2 ^ most_nodes = omega arith in
    or_lt most_nodes c.self.inside.bits _ c.self.invariant one

pub returns-clause-has : goal.returns-clause-has
returns-clause-has c i =
    rw (← c.self.view_is, ← c.get.ensures.value) (has_set c.self.inside.bits c.get.result i c.get.ensures.in_range)

pub returns-clause-set : goal.returns-clause-set
returns-clause-set c =
    let one : 1 * 2 ^ c.get.result % 2 ^ most_nodes < 2 ^ most_nodes = omega arith in
    rw (← c.self.view_is, ← c.get.ensures.value)
    (set_where _ _
    (AllBelow-bits most_nodes _ (or_lt most_nodes c.self.inside.bits _ c.self.invariant one))
    (λ i. has_set c.self.inside.bits c.get.result i c.get.ensures.in_range))
