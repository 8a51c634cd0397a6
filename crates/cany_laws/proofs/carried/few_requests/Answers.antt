use Rattle.cany_laws.proofs.Frames.CarriedRequests.{few_requests}
use Rattle.cany_laws.proofs.carried.few_requests.Goals as goal

pub returns : goal.returns
returns c scenario journal few node cycle = few_requests scenario journal few node cycle
