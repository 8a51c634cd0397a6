use Rattle.cany_model.proofs.Timed.Guarantees.{tot_frames_are_few}
use Rattle.cany_model.proofs.laws.few_tot_frames.Goals as goal

pub returns : goal.returns
returns c scenario journal few within = tot_frames_are_few scenario journal few within
