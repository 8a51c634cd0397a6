use Rattle.std.proofs.Common.{◌≡◌, map}
use Rattle.std.specs.List.{range_with_len}
use Rattle.cany_model.specs.Runs.Run.{run}
use Rattle.cany_check.specs.Accounts.Account.{log_record}
use Rattle.cany_check.specs.Accounts.AccountFields.{log_parts}
use Rattle.cany_check.proofs.account.log_records.records_of_node.Given as goal

abbrev pub invariant-loop-inc : goal.invariant-loop-inc
invariant-loop-inc l =
    map log_parts l.logs.items ≡ map (log_record l.world.scenario (run l.world.scenario l.world.journal) l.node) (range_with_len 0 l.inc)
