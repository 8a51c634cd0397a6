use Rattle.cany_laws.proofs.Frames.CarriedFew.{few_of_sign}
use Rattle.cany_laws.proofs.carried.few_frames_of_a_sign.Goals as goal

pub returns : goal.returns
returns c scenario journal few none_silent sign = few_of_sign scenario journal few none_silent sign
