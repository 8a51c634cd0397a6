use Rattle.can_controller.proofs.SeenFacts.{seen_is_after}
use Rattle.can_controller.proofs.laws.seen_is_node_after.Goals as goal

pub returns : goal.returns
returns c = seen_is_after
