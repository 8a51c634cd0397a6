use Rattle.cany_world.proofs.RoundFacts.{IsInRounds}
use Rattle.cany_world.proofs.rounds.round_robin.Given as goal

abbrev pub invariant-loop-left : goal.invariant-loop-left
invariant-loop-left l = IsInRounds l.fn.world l.world l.left

abbrev pub decreases-loop-left : goal.decreases-loop-left
decreases-loop-left l = l.left
