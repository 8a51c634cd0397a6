use Rattle.std.proofs.Common.{◌≡◌, map, take}
use Rattle.std.specs.Prelude.{filter, filter_map}
use Rattle.cany_check.specs.Accounts.Account.{running}
use Rattle.cany_check.specs.Accounts.AccountFields.{log_parts}
use Rattle.cany_check.specs.Deciding.Accuracy.{accusation_of}
use Rattle.cany_check.specs.Accounts.Words.{takes_part}
use Rattle.cany_check.proofs.deciders.accuracy.accusations_by.Given as goal

abbrev pub invariant-loop-i : goal.invariant-loop-i
invariant-loop-i l = l.found.items ≡ filter_map (accusation_of l.account) (filter (takes_part 0) (running (map log_parts (take l.i l.logs))))
