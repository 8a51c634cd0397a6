use Rattle.cany_laws.proofs.Joins.AdmissionKnown.{known_taken_in}
use Rattle.cany_laws.proofs.admission.known_admission.Goals as goal

pub returns : goal.returns
returns c scenario journal legal within r k slot j f there carried knows = known_taken_in scenario legal journal within r k slot j f there carried knows
