use Rattle.cany_laws.proofs.Members.LeftOut.{silent_is_left_out}
use Rattle.cany_laws.proofs.membership.silent_are_left_out.Goals as goal

pub returns : goal.returns
returns c scenario journal legal within i r k e silent = silent_is_left_out scenario legal journal within i r k e silent
