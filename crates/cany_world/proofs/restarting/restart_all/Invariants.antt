use Rattle.cany_world.proofs.RestartFacts.{IsRestartedTo}
use Rattle.cany_world.proofs.restarting.restart_all.Given as goal

abbrev pub invariant-loop-i : goal.invariant-loop-i
invariant-loop-i l = IsRestartedTo l.restarts l.slot l.i l.fn.controllers l.controllers l.fn.nodes l.nodes
