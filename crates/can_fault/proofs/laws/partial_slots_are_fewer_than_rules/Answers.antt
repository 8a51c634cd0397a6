use Rattle.can_fault.proofs.PartialFacts.{fewer_than_rules}
use Rattle.can_fault.proofs.laws.partial_slots_are_fewer_than_rules.Goals as goal

pub returns : goal.returns
returns c = λ rules trace note ruled partial. fewer_than_rules rules trace note ruled partial
