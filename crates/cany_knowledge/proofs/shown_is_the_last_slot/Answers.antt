use Rattle.cany_knowledge.proofs.Life.{shown_is_greatest}
use Rattle.cany_knowledge.proofs.shown_is_the_last_slot.Goals as goal

pub returns : goal.returns
returns c = shown_is_greatest
