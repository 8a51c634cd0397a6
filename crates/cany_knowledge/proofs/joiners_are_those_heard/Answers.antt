use Rattle.cany_knowledge.proofs.Asks.{joiners_are}
use Rattle.cany_knowledge.proofs.joiners_are_those_heard.Goals as goal

pub returns : goal.returns
returns c = joiners_are
