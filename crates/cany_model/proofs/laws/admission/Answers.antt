use Rattle.cany_model.proofs.Timed.Detector.DetectorLaws.{joiners_are_admitted}
use Rattle.cany_model.proofs.laws.admission.Goals as goal

pub returns : goal.returns
returns c scenario journal legal none within = joiners_are_admitted scenario legal none journal within
