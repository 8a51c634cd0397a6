use Rattle.can_controller.specs.Controller.{node_state}
use Rattle.can_bus.proofs.OfferFacts.{stopped_offers, stopped_in_order}
use Rattle.can_bus.proofs.offers.offer_of.Goals as goal

pub returns-then-is_some-clause-offer : goal.returns-then-is_some-clause-offer
returns-then-is_some-clause-offer c = stopped_offers (node_state c.args.controller.now) (cc)

pub returns-then-is_some-clause-in_order : goal.returns-then-is_some-clause-in_order
returns-then-is_some-clause-in_order c = stopped_in_order c.args.controller.now.params.format (node_state c.args.controller.now) (cc)
