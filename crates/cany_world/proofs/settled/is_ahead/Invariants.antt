use Rattle.cany_world.proofs.SettledFacts.{IsLeftTo}
use Rattle.cany_world.proofs.settled.is_ahead.Given as goal

abbrev pub invariant-loop-i : goal.invariant-loop-i
invariant-loop-i l = IsLeftTo l.i l.service l.key l.controllers l.nodes
