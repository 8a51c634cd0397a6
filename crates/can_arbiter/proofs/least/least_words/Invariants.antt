use Rattle.cany_base.specs.Limits.{most_nodes}
use Rattle.cany_base.specs.Nodes.{has}
use Rattle.can_arbiter.specs.Offers.{does_offer, word_at}
use Rattle.can_arbiter.proofs.LeastFacts.{AreLeastSoFar}
use Rattle.can_arbiter.proofs.RestFacts.{left}
use Rattle.can_arbiter.proofs.least.least_words.Given as goal

abbrev pub invariant-loop-least : goal.invariant-loop-least
invariant-loop-least l = AreLeastSoFar (does_offer l.offers) (has l.rest) (word_at l.offers) l.least.word (has l.least.nodes)

abbrev pub decreases-loop-least : goal.decreases-loop-least
decreases-loop-least l = left (has l.rest) most_nodes
