use Rattle.std.proofs.Common.{arith}
use Rattle.cany_base.specs.Limits.{most_nodes}
use Rattle.cany_base.specs.Nodes.{has}
use Rattle.can_arbiter.proofs.RestFacts.{one_less}
use Rattle.can_arbiter.proofs.least.least_words.Goals as goal

pub loop-least-smaller : goal.loop-least-smaller
loop-least-smaller c =
    one_less (has c.loop-least.rest) (has c.remove.new.self) c.in-Some.node most_nodes c.remove.ensures c.in-Some.ensures.has (omega arith)
