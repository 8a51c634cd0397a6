use Rattle.cany_world.proofs.PeriodFacts.{repeats_after_none}
use Rattle.cany_world.proofs.journal.Journal.build.Goals as goal

pub invariant_of-result : goal.invariant_of-result
invariant_of-result c = repeats_after_none _
