use Rattle.can_controller.proofs.IdentifierFacts.{key_order}
use Rattle.can_controller.proofs.laws.lesser_key_wins.Goals as goal

pub returns : goal.returns
returns c = key_order c.args.format
