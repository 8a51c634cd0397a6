-- Along every run a running node that may take a turn has sent so few life signs of its own that a
-- life interval passed before each.
use Rattle.std.specs.Prelude.{ℕ, List, ◌∷◌, length}
use Rattle.cany_base.specs.declared.step.Step.{Step}
use Rattle.cany_base.specs.Scenario.{ScenarioParts}
use Rattle.cany_model.specs.Bus.History.{history}
use Rattle.cany_model.specs.Runs.Run.{run}
use Rattle.cany_model.specs.Rules.Notices.{HasFewSigns}
use Rattle.cany_model.specs.Rules.Turn.{scenario_at}
use Rattle.cany_model.proofs.Runs.Runs.{orderly}
use Rattle.cany_model.proofs.Runs.Steps.{MayTurn, next_notice}
use Rattle.cany_model.proofs.Promises.EachNode.{each_running}
use Rattle.cany_model.proofs.Promises.SignCounts.{Counted, signs_counted, signs_spaced}

-- one in the notice of that turn counts with them
pub own_signs_few : (scenario : ScenarioParts) (journal : List Step) (i : ℕ) → MayTurn (run scenario journal) i
    → let s = run scenario journal in HasFewSigns (scenario_at scenario s i) i (next_notice s i ∷ history i s) (length (history i s))
own_signs_few scenario journal i may =
    signs_spaced scenario (run scenario journal) i may ((orderly scenario journal).unread i)
    (each_running scenario (Counted scenario) (signs_counted scenario) journal)
