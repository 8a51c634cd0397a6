use Rattle.cany_laws.proofs.Members.EachView.{accepted_by_each}
use Rattle.cany_laws.proofs.incarnations.acceptance.Goals as goal

pub returns : goal.returns
returns c scenario journal legal within key slot clean = accepted_by_each scenario legal journal within key slot clean
