use Rattle.std.proofs.Common.{◌≡◌, map, vec_len}
use Rattle.cany_crew.proofs.FinishFacts.{steps_left}
use Rattle.cany_crew.proofs.finish.finish.Given as goal

abbrev pub invariant-loop-step : goal.invariant-loop-step
invariant-loop-step g l =
    (l.world.scenario ≡ l.fn.world.scenario)
    × (vec_len l.gates ≡ vec_len l.fn.gates)
    × (map g.G.Gate.refusals l.gates.items ≡ map g.G.Gate.refusals l.fn.gates.items)

abbrev pub decreases-loop-step : goal.decreases-loop-step
decreases-loop-step g l = steps_left l.world.scenario l.world.journal
