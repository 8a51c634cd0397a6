use Rattle.std.proofs.Common.{◌≡◌, Some}
use Rattle.cany_base.specs.Limits.{most_nodes}
use Rattle.cany_base.specs.Nodes.{has}
use Rattle.can_arbiter.specs.Offers.{offer_at}
use Rattle.can_arbiter.proofs.RestFacts.{left}
use Rattle.can_arbiter.proofs.SenderFacts.{AreChecked}
use Rattle.can_arbiter.proofs.arbitration.senders_of.Given as goal

abbrev pub invariant-loop-node : goal.invariant-loop-node
invariant-loop-node l = AreChecked (has l.fn.sending) (has l.rest) (has l.senders) (λ i. offer_at l.offers i ≡ Some l.frame)

abbrev pub decreases-loop-node : goal.decreases-loop-node
decreases-loop-node l = left (has l.rest) most_nodes
