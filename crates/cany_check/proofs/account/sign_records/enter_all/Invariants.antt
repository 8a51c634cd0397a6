use Rattle.std.proofs.Common.{◌≡◌, ◌++◌, List, [], map, take}
use Rattle.cany_model.specs.Rules.Knowledge.{FailureSign}
use Rattle.cany_model.specs.Runs.Run.{run}
use Rattle.cany_check.specs.Accounts.Account.{is_sign_before}
use Rattle.cany_check.specs.InOrder.{ascending}
use Rattle.cany_check.specs.Accounts.Records.{sign_entry, signs_of_entries}
use Rattle.cany_check.proofs.account.sign_records.enter_all.Given as goal

abbrev pub invariant-loop-entry : goal.invariant-loop-entry
invariant-loop-entry l =
    (told : List FailureSign)
    → l.fn.table.entries ≡ map (sign_entry (run l.world.scenario l.world.journal) []) (ascending is_sign_before told)
    → l.table.entries
    ≡ map (sign_entry (run l.world.scenario l.world.journal) []) (ascending is_sign_before (told ++ signs_of_entries (take l.entry-index l.log.entries.now)))
