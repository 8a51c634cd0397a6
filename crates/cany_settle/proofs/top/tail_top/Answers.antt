use Rattle.cany_command.specs.NoFault.{done_is_no_fault}
use Rattle.cany_command.proofs.Causes.{causes}
use Rattle.cany_settle.specs.Top.{tail_command}
use Rattle.cany_settle.proofs.TopFacts.{told_if}
use Rattle.cany_settle.proofs.top.tail_top.Goals as goal

pub returns-clause-answered : goal.returns-clause-answered
returns-clause-answered g c = c.perform.ensures

pub returns-clause-done : goal.returns-clause-done
returns-clause-done g c = λ done. told_if _ _ _ ((causes tail_command _ _ _ _ done_is_no_fault c.perform.ensures).done done)
