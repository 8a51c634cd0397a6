use Rattle.std.proofs.Common.{List}
use Rattle.cany_base.specs.declared.step.Step.{Step}
use Rattle.cany_base.specs.Scenario.{ScenarioParts}
use Rattle.can_bus.proofs.SetFacts.{SetSoFar}
use Rattle.cany_model.specs.Rules.Messages.{frames_named}
use Rattle.cany_model.specs.Runs.Run.{run}
use Rattle.cany_world.specs.Kept.{AreControllersOf}
use Rattle.cany_world.specs.Settled.{is_waiting}
use Rattle.cany_world.proofs.unsettled.waiting_nodes.Given as goal

abbrev pub invariant-loop-i : goal.invariant-loop-i
invariant-loop-i l =
    (scenario : ScenarioParts) (journal : List Step) → AreControllersOf scenario (run scenario journal) l.controllers
    → SetSoFar l.set l.i (is_waiting (frames_named l.service l.key) (run scenario journal))
