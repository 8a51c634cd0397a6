use Rattle.cany_model.proofs.Timed.Detector.DetectorLaws.{members_remain}
use Rattle.cany_model.proofs.laws.members_stay.Goals as goal

pub returns : goal.returns
returns c scenario journal legal none within = members_remain scenario legal none journal within
