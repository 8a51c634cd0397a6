use Rattle.std.proofs.Common.{◌≡◌, [], drop, take}
use Rattle.cany_check.specs.Deciding.Integrity.{first_wrong}
use Rattle.cany_check.specs.Deciding.Marks.{AreMarked}
use Rattle.cany_check.proofs.deciders.integrity.first_wrong.Given as goal

abbrev pub invariant-loop-i : goal.invariant-loop-i
invariant-loop-i l =
    (first_wrong l.account (take l.i l.entries) (drop l.i l.entries) ≡ first_wrong l.account [] l.entries)
    × AreMarked l.account.messages l.number (take l.i l.entries) l.marks
