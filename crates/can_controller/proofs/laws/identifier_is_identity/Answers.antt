use Rattle.can_controller.proofs.IdentifierFacts.{identity_in_high_bits}
use Rattle.can_controller.proofs.laws.identifier_is_identity.Goals as goal

pub returns : goal.returns
returns c = identity_in_high_bits c.args.format
