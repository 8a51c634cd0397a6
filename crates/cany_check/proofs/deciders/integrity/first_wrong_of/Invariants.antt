use Rattle.std.proofs.Common.{◌≡◌, ◌+◌, drop, map}
use Rattle.cany_check.specs.Accounts.Account.{running}
use Rattle.cany_check.specs.Accounts.AccountFields.{log_parts}
use Rattle.cany_check.specs.Deciding.Integrity.{first_wrong_of, wrong_entry}
use Rattle.cany_check.specs.Deciding.Marks.{AreBelow}
use Rattle.cany_check.proofs.deciders.integrity.first_wrong_of.Given as goal

abbrev pub invariant-loop-i : goal.invariant-loop-i
invariant-loop-i l =
    (first_wrong_of l.account (running (map log_parts (drop l.i l.logs))) ≡ wrong_entry l.account)
    × AreBelow l.account.messages (l.i + 1) l.marks
