use Rattle.std.proofs.Common.{take}
use Rattle.cany_check.specs.Accounts.Places.{AreRows, lists_of}
use Rattle.cany_check.proofs.account.places.places_of.Given as goal

abbrev pub invariant-loop-i : goal.invariant-loop-i
invariant-loop-i l = AreRows (take l.i l.messages) (lists_of l.of_origin.items)
