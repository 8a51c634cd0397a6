use Rattle.cany_knowledge.proofs.Asks.{leavers_are}
use Rattle.cany_knowledge.proofs.leavers_are_those_heard.Goals as goal

pub returns : goal.returns
returns c = leavers_are
