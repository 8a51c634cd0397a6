use Rattle.cany_base.proofs.ParamsFacts.{few_nodes}
use Rattle.cany_laws.proofs.Silences.Detected.{detected}
use Rattle.cany_laws.proofs.membership.silence_is_detected.Goals as goal

pub returns : goal.returns
returns c scenario journal legal i r t u e hears late = detected scenario journal (few_nodes scenario.params legal.in_range) i r t u e hears late
