use Rattle.cany_laws.proofs.Members.EachView.{each_has_one_view}
use Rattle.cany_laws.proofs.incarnations.view_agreement.Goals as goal

pub returns : goal.returns
returns c scenario journal legal within = each_has_one_view scenario legal journal within
