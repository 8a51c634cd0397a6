use Rattle.cany_laws.proofs.Members.LeftOut.{left_out}
use Rattle.cany_laws.proofs.membership.failed_are_left_out.Goals as goal

pub returns : goal.returns
returns c scenario journal legal within i r k e failed = left_out scenario legal journal within i r k e failed
