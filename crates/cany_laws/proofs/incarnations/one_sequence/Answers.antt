use Rattle.cany_laws.proofs.Logs.OneSequence.{one_sequence}
use Rattle.cany_laws.proofs.incarnations.one_sequence.Goals as goal

pub returns : goal.returns
returns c scenario journal legal within = one_sequence scenario legal journal within
