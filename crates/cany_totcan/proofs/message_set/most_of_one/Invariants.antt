use Rattle.std.proofs.Common.{◌≡◌}
use Rattle.cany_totcan.specs.MessageSet.{most_of_one}
use Rattle.cany_totcan.proofs.message_set.most_of_one.Given as goal

abbrev pub invariant-loop-i : goal.invariant-loop-i
invariant-loop-i l = l.most ≡ most_of_one l.scenario.sends l.i
