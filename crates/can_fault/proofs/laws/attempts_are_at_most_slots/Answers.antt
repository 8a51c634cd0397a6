use Rattle.can_fault.proofs.AttemptFacts.{few_attempts}
use Rattle.can_fault.proofs.laws.attempts_are_at_most_slots.Goals as goal

pub returns : goal.returns
returns c = λ rules trace f. few_attempts rules trace f
