use Rattle.cany_laws.proofs.Members.EachView.{each_installs_one}
use Rattle.cany_laws.proofs.incarnations.vector_agreement.Goals as goal

pub returns : goal.returns
returns c scenario journal legal within = each_installs_one scenario legal journal within
