use Rattle.std.proofs.Common.{List, [], ◌∷◌, ◌++◌, take}
use Rattle.cany_check.specs.Accounts.Account.{LogParts}
use Rattle.cany_check.specs.Accounts.AccountFields.{log_parts}
use Rattle.cany_check.specs.Deciding.Holders.{AreHolders, log_with}
use Rattle.cany_check.proofs.deciders.holders.add_log.Given as goal

abbrev pub invariant-loop-entry : goal.invariant-loop-entry
invariant-loop-entry g l =
    (before : List LogParts) → AreHolders (g.S.Subjects.number l.subjects) (g.S.Subjects.tells l.subjects) (g.S.Subjects.since l.subjects) before l.fn.holders
    → AreHolders (g.S.Subjects.number l.subjects) (g.S.Subjects.tells l.subjects) (g.S.Subjects.since l.subjects)
    (before ++ log_with (log_parts l.log) (take l.entry-index l.log.entries.now) ∷ []) l.holders
