use Rattle.cany_laws.proofs.Members.RemovalStop.{stopped_removed}
use Rattle.cany_laws.proofs.removal.stopped_removal.Goals as goal

pub returns : goal.returns
returns c scenario journal legal within i r t k e there stopped had none = stopped_removed scenario legal journal within i r t k e there stopped had none
