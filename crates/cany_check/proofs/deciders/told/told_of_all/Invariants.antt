use Rattle.std.proofs.Common.{◌≡◌, map, take}
use Rattle.cany_check.proofs.deciders.told.told_of_all.Given as goal

abbrev pub invariant-loop-i : goal.invariant-loop-i
invariant-loop-i g l = l.all.items ≡ map (g.R.HasFate.told l.account) (take l.i l.records)
