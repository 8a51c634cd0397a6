use Rattle.cany_model.proofs.Timed.Guarantees.{accepts_are_few}
use Rattle.cany_model.proofs.laws.few_accept_frames.Goals as goal

pub returns : goal.returns
returns c scenario journal few within = accepts_are_few scenario journal few within
