use Rattle.cany_laws.proofs.Joins.AdmissionTaken.{admitted_by_each}
use Rattle.cany_laws.proofs.admission.admission.Goals as goal

pub returns : goal.returns
returns c scenario journal legal within r k slot there carried outside = admitted_by_each scenario legal journal within r k slot there carried outside
