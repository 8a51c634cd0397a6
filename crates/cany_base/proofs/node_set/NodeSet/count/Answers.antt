use Rattle.std.proofs.Common.{◌≡◌, ap, ◌∙◌, arith}
use Rattle.std.specs.List.{count_by, range_with_len}
use Rattle.cany_base.specs.Limits.{most_nodes}
use Rattle.cany_base.specs.Nodes.{has}
use Rattle.cany_base.proofs.NodesFacts.{count_more, has_from_test, has_not_from_test}
use Rattle.cany_base.proofs.node_set.NodeSet.count.Goals as goal
use Rattle.cany_base.proofs.node_set.NodeSet.count.Goals.{then-self-i-eq1, else-self-i-eq1}

pub loop-i-preserved : goal.loop-i-preserved
loop-i-preserved c = elim c.if-self-i-eq1.branch [
  | then-self-i-eq1 w ↦ record {
    counted = rw (count_more (has (record { bits = c.self.inside.bits })) c.loop-i.i, has_from_test c.self.inside.bits c.loop-i.i w.if-self-i-eq1.true) (omega arith);
    small = omega arith;
  }
  | else-self-i-eq1 w ↦ record {
    counted = rw (count_more (has (record { bits = c.self.inside.bits })) c.loop-i.i, has_not_from_test c.self.inside.bits c.loop-i.i w.if-self-i-eq1.false) (omega arith);
    small = omega arith;
  }
]

pub returns-clause-count : goal.returns-clause-count
returns-clause-count c =
    let done : c.loop-i.i ≡ most_nodes = omega arith in
    rw (← c.self.view_is) (c.loop-i.invariant.counted ∙ ap (λ n. count_by (has (record { bits = c.self.inside.bits })) (range_with_len 0 n)) done)
