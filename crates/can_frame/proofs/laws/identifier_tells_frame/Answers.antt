use Rattle.can_frame.proofs.IdentityFacts.{identifiers_tell}
use Rattle.can_frame.proofs.laws.identifier_tells_frame.Goals as goal

pub returns : goal.returns
returns c = identifiers_tell c.args.format
