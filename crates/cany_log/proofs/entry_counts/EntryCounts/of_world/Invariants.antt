use Rattle.std.specs.List.{range_with_len}
use Rattle.cany_model.specs.Runs.Run.{run}
use Rattle.cany_log.specs.Summary.{entries_of_node}
use Rattle.cany_log.proofs.CountFacts.{AreCounted}
use Rattle.cany_log.proofs.entry_counts.EntryCounts.of_world.Given as goal

abbrev pub invariant-loop-number : goal.invariant-loop-number
invariant-loop-number l =
    AreCounted (entries_of_node l.world.scenario (run l.world.scenario l.world.journal)) (range_with_len 0 l.number-end) 4722366482869645213696 l.number l.counts
