use Rattle.can_controller.proofs.SeenFacts.{pushed}
use Rattle.can_controller.proofs.controller.keep.Goals as goal

pub returns : goal.returns
returns g c = pushed c.try_push_back.result c.args.ring.now c.try_push_back.new.self c.args.item.now c.requires c.try_push_back.ensures.variant c.try_push_back.ensures.ok
