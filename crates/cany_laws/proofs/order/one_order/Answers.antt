use Rattle.cany_laws.proofs.Logs.OrderOfEach.{each_follows_order}
use Rattle.cany_laws.proofs.order.one_order.Goals as goal

pub returns : goal.returns
returns c scenario journal legal within = each_follows_order scenario legal journal within
