use Rattle.cany_laws.proofs.Frames.CarriedConfirmed.{confirmed_once}
use Rattle.cany_laws.proofs.carried.confirmed_once.Goals as goal

pub returns : goal.returns
returns c scenario journal few key = confirmed_once scenario key journal few
