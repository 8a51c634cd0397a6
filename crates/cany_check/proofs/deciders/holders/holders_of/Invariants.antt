use Rattle.std.proofs.Common.{map, take}
use Rattle.cany_check.specs.Accounts.AccountFields.{log_parts}
use Rattle.cany_check.specs.Deciding.Holders.{AreHolders}
use Rattle.cany_check.proofs.deciders.holders.holders_of.Given as goal

abbrev pub invariant-loop-i : goal.invariant-loop-i
invariant-loop-i g l =
    AreHolders (g.S.Subjects.number l.subjects) (g.S.Subjects.tells l.subjects) (g.S.Subjects.since l.subjects) (map log_parts (take l.i l.logs)) l.holders.items
