use Rattle.cany_model.specs.Runs.Run.{run}
use Rattle.cany_log.specs.Summary.{all_entries}
use Rattle.cany_log.proofs.CountFacts.{entries_line-is}
use Rattle.cany_log.proofs.summary.write_entry_counts.Goals as goal

pub returns : goal.returns
returns g c =
    let entries = all_entries c.args.world.now.scenario (run c.args.world.now.scenario c.args.world.now.journal) in
    rw (entries_line-is entries c.of_world-counts.result c.of_world-counts.ensures) c.write_line.ensures
