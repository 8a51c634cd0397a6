use Rattle.std.proofs.Common.{◌≡◌, List}
use Rattle.cany_base.specs.declared.step.Step.{Step}
use Rattle.cany_base.specs.Scenario.{ScenarioParts}
use Rattle.can_bus.proofs.SetFacts.{SetSoFar}
use Rattle.cany_model.specs.Rules.Messages.{Message}
use Rattle.cany_model.specs.Runs.Run.{run}
use Rattle.cany_world.specs.Settled.{IsAbout, has_ahead}
use Rattle.cany_world.proofs.unsettled.nodes_ahead.Given as goal

abbrev pub invariant-loop-i : goal.invariant-loop-i
invariant-loop-i l =
    (scenario : ScenarioParts) (journal : List Step) (m : Message) → IsAbout scenario journal m l.key l.controllers l.nodes → m.service ≡ l.service
    → SetSoFar l.set l.i (has_ahead scenario (run scenario journal) m)
