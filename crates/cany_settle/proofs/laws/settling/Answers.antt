use Rattle.cany_settle.proofs.LongEnough.{settles_in_the_end}
use Rattle.cany_settle.proofs.laws.settling.Goals as goal

pub returns : goal.returns
returns c scenario journal legal begins within whole long = settles_in_the_end scenario journal legal begins within whole long
