use Rattle.cany_scenario.proofs.EntryFacts.{found_or_missing}
use Rattle.cany_scenario.proofs.entry.Entry.required.Goals as goal

pub returns : goal.returns
returns c = rw c.ok_or.ensures.value (found_or_missing c.value.result _ _ c.value.ensures)
