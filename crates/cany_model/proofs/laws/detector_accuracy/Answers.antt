use Rattle.cany_model.proofs.Timed.Detector.DetectorLaws.{none_is_thrown_out}
use Rattle.cany_model.proofs.laws.detector_accuracy.Goals as goal

pub returns : goal.returns
returns c scenario journal legal none within = none_is_thrown_out scenario legal none journal within
