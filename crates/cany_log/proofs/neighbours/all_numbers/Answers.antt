use Rattle.cany_log.proofs.NumbersFacts.{all_numbers}
use Rattle.cany_log.proofs.neighbours.all_numbers.Goals as goal

pub returns : goal.returns
returns c = all_numbers
