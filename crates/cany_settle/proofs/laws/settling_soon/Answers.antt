use Rattle.cany_settle.proofs.LongEnough.{settles_soon}
use Rattle.cany_settle.proofs.laws.settling_soon.Goals as goal

pub returns : goal.returns
returns c scenario journal legal begins within whole long = settles_soon scenario journal legal begins within whole long
