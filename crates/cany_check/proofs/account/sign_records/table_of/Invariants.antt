use Rattle.std.proofs.Common.{◌≡◌, [], map, take}
use Rattle.cany_model.specs.Runs.Run.{run}
use Rattle.cany_check.specs.Accounts.Account.{is_sign_before}
use Rattle.cany_check.specs.Accounts.AccountFields.{log_parts}
use Rattle.cany_check.specs.InOrder.{ascending}
use Rattle.cany_check.specs.Accounts.Records.{sign_entry, signs_of_logs}
use Rattle.cany_check.proofs.account.sign_records.table_of.Given as goal

abbrev pub invariant-loop-i : goal.invariant-loop-i
invariant-loop-i l =
    l.table.entries ≡ map (sign_entry (run l.world.scenario l.world.journal) []) (ascending is_sign_before (signs_of_logs (map log_parts (take l.i l.logs))))
