use Rattle.std.proofs.Common.{◌≡◌}
use Rattle.can_bus.specs.Contest.{stopped_by}
use Rattle.can_bus.proofs.EachFacts.{changed}
use Rattle.can_bus.proofs.seeing.stop_all.Given as goal

abbrev pub invariant-loop-i : goal.invariant-loop-i
invariant-loop-i l = l.controllers ≡ changed (stopped_by l.slot l.stops) 0 l.i l.initial.controllers
