use Rattle.std.proofs.Common.{◌≡◌, drop}
use Rattle.cany_check.specs.Deciding.Reference.{cut}
use Rattle.cany_check.proofs.deciders.order.place_from.Given as goal

abbrev pub invariant-loop-i : goal.invariant-loop-i
invariant-loop-i l = cut l.from (drop l.i l.reference) ≡ cut l.from (drop l.next l.reference)
