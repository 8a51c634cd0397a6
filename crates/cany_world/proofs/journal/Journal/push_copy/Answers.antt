use Rattle.cany_world.proofs.PeriodFacts.{repeats_after_none}
use Rattle.cany_world.proofs.journal.Journal.push_copy.Goals as goal

pub invariant_of-self : goal.invariant_of-self
invariant_of-self c = repeats_after_none _
