use Rattle.cany_command.proofs.Causes.{causes}
use Rattle.cany_check.specs.NoFault.{verdict_is_no_fault}
use Rattle.cany_check.specs.Top.{check_command}
use Rattle.cany_check.proofs.TopFacts.{told_if}
use Rattle.cany_check.proofs.top.check_top.Goals as goal

pub returns-clause-answered : goal.returns-clause-answered
returns-clause-answered g c = c.perform.ensures

pub returns-clause-done : goal.returns-clause-done
returns-clause-done g c = λ verdict.
    let performed = causes check_command _ _ _ _ verdict_is_no_fault c.perform.ensures in
    told_if _ _ _ _ (performed.done verdict) (performed.success verdict)
