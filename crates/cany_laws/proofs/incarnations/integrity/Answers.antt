use Rattle.cany_laws.proofs.Logs.IntegralLogs.{each_integral}
use Rattle.cany_laws.proofs.incarnations.integrity.Goals as goal

pub returns : goal.returns
returns c scenario journal few = each_integral scenario journal few
