use Rattle.cany_model.specs.Bus.State.{node_at, opening}
use Rattle.cany_world.specs.Kept.{IsKeptAs}
use Rattle.cany_world.specs.Places.{AreOfNodes}
use Rattle.cany_world.proofs.opening.controllers_of.Given as goal

abbrev pub invariant-loop-i : goal.invariant-loop-i
invariant-loop-i l =
    let first = opening l.fn.scenario.params.nodes in
    AreOfNodes (λ i c. IsKeptAs l.fn.scenario first.trace i (node_at first.nodes i) c) l.i l.controllers.items
