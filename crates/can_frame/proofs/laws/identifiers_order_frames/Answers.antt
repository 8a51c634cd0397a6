use Rattle.can_frame.proofs.IdentityFacts.{identifiers_order}
use Rattle.can_frame.proofs.laws.identifiers_order_frames.Goals as goal

pub returns : goal.returns
returns c = identifiers_order c.args.format
