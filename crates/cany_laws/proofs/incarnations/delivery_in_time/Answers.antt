use Rattle.cany_laws.proofs.Logs.DeliveredInTime.{delivered_in_time}
use Rattle.cany_laws.proofs.incarnations.delivery_in_time.Goals as goal

pub returns : goal.returns
returns c scenario journal legal within m stands tot slot clean = delivered_in_time scenario legal journal within m stands tot slot clean
