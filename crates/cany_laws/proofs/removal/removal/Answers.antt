use Rattle.cany_laws.proofs.Members.RemovalOut.{removed}
use Rattle.cany_laws.proofs.removal.removal.Goals as goal

pub returns : goal.returns
returns c scenario journal legal within i r t k e there had quiet none = removed scenario legal journal within i r t k e there had quiet none
