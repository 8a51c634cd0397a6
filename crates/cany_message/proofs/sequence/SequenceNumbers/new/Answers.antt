use Rattle.std.proofs.lemmas.List.{get_or-replicate}
use Rattle.cany_base.specs.Limits.{most_nodes}
use Rattle.cany_message.proofs.sequence.SequenceNumbers.new.Goals as goal

pub returns : goal.returns
returns c = λ node small. get_or-replicate most_nodes node 0 0 small
