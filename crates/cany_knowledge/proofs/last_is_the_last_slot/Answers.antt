use Rattle.cany_knowledge.proofs.Life.{last_is_greatest}
use Rattle.cany_knowledge.proofs.last_is_the_last_slot.Goals as goal

pub returns : goal.returns
returns c = last_is_greatest
