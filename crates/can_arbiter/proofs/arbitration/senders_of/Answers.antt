use Rattle.std.proofs.Common.{arith}
use Rattle.cany_base.specs.Limits.{most_nodes}
use Rattle.cany_base.specs.Nodes.{has}
use Rattle.can_arbiter.proofs.RestFacts.{one_less}
use Rattle.can_arbiter.proofs.arbitration.senders_of.Goals as goal

pub loop-node-smaller-then-ne : goal.loop-node-smaller-then-ne
loop-node-smaller-then-ne c =
    one_less (has c.loop-node.rest) (has c.remove.new.self) c.in-Some.node most_nodes c.remove.ensures c.in-Some.ensures.has (omega arith)

pub loop-node-smaller : goal.loop-node-smaller
loop-node-smaller c =
    one_less (has c.loop-node.rest) (has c.remove.new.self) c.in-Some.node most_nodes c.remove.ensures c.in-Some.ensures.has (omega arith)
