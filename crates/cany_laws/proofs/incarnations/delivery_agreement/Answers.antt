use Rattle.cany_laws.proofs.Logs.DeliveredByEach.{delivered_by_each}
use Rattle.cany_laws.proofs.incarnations.delivery_agreement.Goals as goal

pub returns : goal.returns
returns c scenario journal legal within m stands tot slot clean = delivered_by_each scenario legal journal within m stands tot slot clean
