-- The law is a lemma on every scenario.
use Rattle.cany_model.proofs.Runs.RoundRobinEnds.{round_robin_ends}
use Rattle.cany_model.proofs.laws.round_robin_is_whole.Goals as goal

pub returns : goal.returns
returns c = round_robin_ends
