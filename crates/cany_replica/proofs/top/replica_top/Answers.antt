use Rattle.cany_command.specs.NoFault.{done_is_no_fault}
use Rattle.cany_command.proofs.Causes.{causes}
use Rattle.cany_replica.specs.Top.{replica_command}
use Rattle.cany_replica.proofs.TopFacts.{told_if}
use Rattle.cany_replica.proofs.top.replica_top.Goals as goal

pub returns-clause-answered : goal.returns-clause-answered
returns-clause-answered g c = c.perform.ensures

pub returns-clause-done : goal.returns-clause-done
returns-clause-done g c = λ done. told_if _ _ _ ((causes replica_command _ _ _ _ done_is_no_fault c.perform.ensures).done done)
