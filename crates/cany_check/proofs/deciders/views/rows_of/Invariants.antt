use Rattle.std.proofs.Common.{map, take}
use Rattle.std.specs.List.{flat_map}
use Rattle.cany_check.specs.Accounts.Account.{running}
use Rattle.cany_check.specs.Accounts.AccountFields.{log_parts}
use Rattle.cany_check.specs.Deciding.ViewRows.{HasRows, views_in}
use Rattle.cany_check.proofs.deciders.views.rows_of.Given as goal

abbrev pub invariant-loop-i : goal.invariant-loop-i
invariant-loop-i l = HasRows (flat_map views_in (running (map log_parts (take l.i l.logs)))) l.rows.items
