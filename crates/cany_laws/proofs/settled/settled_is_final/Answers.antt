use Rattle.cany_laws.proofs.Logs.FinalLogs.{is_final}
use Rattle.cany_laws.proofs.settled.settled_is_final.Goals as goal

pub returns : goal.returns
returns c scenario front rest legal m is scripted settled = is_final scenario legal front rest m is scripted settled
