use Rattle.cany_laws.proofs.Frames.CarriedFew.{few_of_message}
use Rattle.cany_laws.proofs.carried.few_frames_of_a_message.Goals as goal

pub returns : goal.returns
returns c scenario journal few none_silent key = few_of_message scenario journal few none_silent key
