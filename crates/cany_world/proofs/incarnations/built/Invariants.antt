use Rattle.cany_world.specs.Incarnations.{AreBuilt}
use Rattle.cany_world.proofs.incarnations.built.Given as goal

abbrev pub invariant-loop-number : goal.invariant-loop-number
invariant-loop-number l = AreBuilt l.fn.scenario l.node l.number l.nodes.items
