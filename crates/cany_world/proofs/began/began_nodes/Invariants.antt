use Rattle.std.specs.Prelude.{◌||◌, List}
use Rattle.std.specs.List.{list_any}
use Rattle.cany_base.specs.declared.step.Step.{Step}
use Rattle.cany_base.specs.Scenario.{ScenarioParts}
use Rattle.cany_model.specs.Bus.Restart.{began_at}
use Rattle.cany_model.specs.Runs.Run.{run}
use Rattle.cany_model.specs.Bus.State.{node_at}
use Rattle.can_bus.proofs.SetFacts.{SetSoFar}
use Rattle.cany_world.specs.Kept.{AreNodesOf}
use Rattle.cany_world.proofs.began.began_nodes.Given as goal

abbrev pub invariant-loop-i : goal.invariant-loop-i
invariant-loop-i l =
    (scenario : ScenarioParts) (journal : List Step) → AreNodesOf scenario (run scenario journal) l.nodes
    → SetSoFar l.set l.i (λ i. let node = node_at (run scenario journal).nodes i in
    began_at l.slot node.present || list_any (λ e. began_at l.slot e.incarnation) node.ended)
