use Rattle.cany_model.proofs.Timed.Detector.DetectorLaws.{stopped_are_removed}
use Rattle.cany_model.proofs.laws.removal.Goals as goal

pub returns : goal.returns
returns c scenario journal legal none within = stopped_are_removed scenario legal none journal within
