use Rattle.std.proofs.Common.{◌+◌}
use Rattle.std.specs.List.{range_with_len}
use Rattle.cany_model.specs.Runs.Incarnations.{log_of}
use Rattle.cany_model.specs.Runs.Run.{run}
use Rattle.cany_log.proofs.CountFacts.{AreCounted}
use Rattle.cany_log.proofs.entry_counts.EntryCounts.of_node.Given as goal

abbrev pub invariant-loop-inc : goal.invariant-loop-inc
invariant-loop-inc l =
    AreCounted (log_of l.world.scenario (run l.world.scenario l.world.journal) l.node) (range_with_len 0 (l.inc-end + 1)) 18446744073709551616 l.inc l.counts
