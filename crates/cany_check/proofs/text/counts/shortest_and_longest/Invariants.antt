use Rattle.std.proofs.Common.{◌≡◌, map, take}
use Rattle.cany_check.specs.Accounts.AccountFields.{log_parts}
use Rattle.cany_check.specs.Texts.Counts.{running_counts}
use Rattle.cany_check.proofs.Texts.CountFacts.{lengths_so_far}
use Rattle.cany_check.proofs.text.counts.shortest_and_longest.Given as goal

abbrev pub invariant-loop-i : goal.invariant-loop-i
invariant-loop-i l = l.lengths ≡ lengths_so_far (running_counts (map log_parts (take l.i l.logs)))
