use Rattle.std.proofs.Common.{◌+◌, ◌∙◌, ap, arith}
use Rattle.std.specs.List.{range_with_len}
use Rattle.cany_model.specs.Runs.Incarnations.{log_of}
use Rattle.cany_model.specs.Runs.Run.{run}
use Rattle.cany_log.specs.Counted.{counts_of}
use Rattle.cany_log.proofs.CountFacts.{AreCounted-all, AreCounted-next, node_entries}
use Rattle.cany_log.proofs.ReportFacts.{at_number, below_length, past_length}
use Rattle.cany_log.proofs.entry_counts.EntryCounts.of_node.Goals as goal

pub loop-inc-preserved : goal.loop-inc-preserved
loop-inc-preserved c =
    let count = c.incarnation-inc-end.result + 1 in
    let log = log_of c.args.world.now.scenario (run c.args.world.now.scenario c.args.world.now.journal) c.args.node in
    AreCounted-next log (range_with_len 0 count) 18446744073709551616 c.loop-inc.inc c.loop-inc.inc c.loop-inc.counts c.of_log.result c.plus-counts.result c.loop-inc.invariant
    (below_length count c.loop-inc.inc (omega arith)) (at_number count c.loop-inc.inc (omega arith)) (c.of_log.ensures.value ∙ ap counts_of c.log_of.ensures)
    c.of_log.ensures.few c.plus-counts.ensures (omega arith)

-- the last incarnation was counted
pub returns-2-clause-value : goal.returns-2-clause-value
returns-2-clause-value c =
    let count = c.incarnation-inc-end.result + 1 in
    let scenario = c.args.world.now.scenario in
    let s = run c.args.world.now.scenario c.args.world.now.journal in
    let log = log_of scenario s c.args.node in
    AreCounted-all log (range_with_len 0 count) 18446744073709551616 (c.loop-inc.inc + 1) c.plus-counts.result
    (AreCounted-next log (range_with_len 0 count) 18446744073709551616 c.loop-inc.inc c.loop-inc.inc c.loop-inc.counts c.of_log.result c.plus-counts.result c.loop-inc.invariant
    (below_length count c.loop-inc.inc (omega arith)) (at_number count c.loop-inc.inc (omega arith)) (c.of_log.ensures.value ∙ ap counts_of c.log_of.ensures)
    c.of_log.ensures.few c.plus-counts.ensures (omega arith))
    (past_length count (c.loop-inc.inc + 1) (omega arith))
    ∙ ap counts_of (node_entries scenario s c.args.node count (omega (arith, c.incarnation-inc-end.ensures)))
