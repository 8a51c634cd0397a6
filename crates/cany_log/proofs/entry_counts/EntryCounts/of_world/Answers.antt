use Rattle.std.proofs.Common.{◌∙◌, ap, arith}
use Rattle.std.specs.List.{range_with_len}
use Rattle.cany_model.specs.Runs.Run.{run}
use Rattle.cany_log.specs.Counted.{counts_of}
use Rattle.cany_log.specs.Summary.{entries_of_node}
use Rattle.cany_log.proofs.CountFacts.{AreCounted-all, AreCounted-next, world_entries}
use Rattle.cany_log.proofs.ReportFacts.{at_number, below_length, past_length}
use Rattle.cany_log.proofs.entry_counts.EntryCounts.of_world.Goals as goal

pub loop-number-preserved : goal.loop-number-preserved
loop-number-preserved c =
    let node = rw c.unwrap.ensures at c.new.ensures.value in
    let entries = entries_of_node c.args.world.now.scenario (run c.args.world.now.scenario c.args.world.now.journal) in
    AreCounted-next entries (range_with_len 0 c.behind-scenario.inside.nodes) 4722366482869645213696 c.loop-number.number c.loop-number.number
    c.loop-number.counts c.of_node.result c.plus-counts.result c.loop-number.invariant (below_length _ _ c.loop-number-test.true)
    (at_number _ _ c.loop-number-test.true) (rw node at c.of_node.ensures.value) c.of_node.ensures.few c.plus-counts.ensures (omega arith)

pub returns : goal.returns
returns c =
    let nodes = ap (λ p. p.nodes) (c.behind-scenario.view_is ∙ c.params.ensures.params ∙ ap (λ s. s.params) c.scenario.ensures) in
    let scenario = c.args.world.now.scenario in
    let s = run c.args.world.now.scenario c.args.world.now.journal in
    AreCounted-all (entries_of_node scenario s) (range_with_len 0 c.behind-scenario.inside.nodes) 4722366482869645213696 c.loop-number.number c.loop-number.counts
    c.loop-number.invariant (past_length _ _ c.loop-number-test.false)
    ∙ ap counts_of (world_entries scenario s c.behind-scenario.inside.nodes nodes)
