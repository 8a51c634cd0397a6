use Rattle.cany_world.proofs.RoundFacts.{IsInRound}
use Rattle.cany_world.proofs.rounds.make_round.Given as goal

abbrev pub invariant-loop-i : goal.invariant-loop-i
invariant-loop-i l = IsInRound l.fn.world l.world l.i
