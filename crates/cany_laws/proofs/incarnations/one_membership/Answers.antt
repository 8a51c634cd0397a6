use Rattle.cany_laws.proofs.Members.EqualMembers.{one_membership}
use Rattle.cany_laws.proofs.incarnations.one_membership.Goals as goal

pub returns : goal.returns
returns c scenario journal legal within = one_membership scenario legal journal within
