use Rattle.std.proofs.Common.{◌≡◌, filter, map, take}
use Rattle.cany_check.specs.Accounts.AccountFields.{log_parts}
use Rattle.cany_check.specs.Deciding.Holders.{counts_since}
use Rattle.cany_check.specs.Accounts.Words.{nodes_of}
use Rattle.cany_check.proofs.deciders.holders.counting.Given as goal

abbrev pub invariant-loop-i : goal.invariant-loop-i
invariant-loop-i l = l.nodes ≡ nodes_of (filter (counts_since l.since) (map log_parts (take l.i l.logs)))
