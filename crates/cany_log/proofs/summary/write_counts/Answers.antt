use Rattle.std.proofs.lemmas.Result.{err_from_is_err_and}
use Rattle.cany_model.specs.Runs.Run.{run}
use Rattle.cany_log.proofs.SummaryFacts.{counts-is}
use Rattle.cany_log.proofs.WrittenFacts.{IsWritten-then, IsWritten-short}
use Rattle.cany_log.proofs.summary.write_counts.Goals as goal

pub returns-in_err-write_frames : goal.returns-in_err-write_frames
returns-in_err-write_frames g c =
    let p = err_from_is_err_and c.from_residual.result c.from_residual.ensures.1 in
    rw (p.1, counts-is c.args.world.now.scenario (run c.args.world.now.scenario c.args.world.now.journal) c.trace.result.now c.trace.ensures.oldest_first) (IsWritten-short _ _ _ _ _ _ _ c.in_err-write_frames.ensures)

pub returns-in_err-write_entry_counts : goal.returns-in_err-write_entry_counts
returns-in_err-write_entry_counts g c =
    let p = err_from_is_err_and c.from_residual-in_err-write_entry_counts.result c.from_residual-in_err-write_entry_counts.ensures.1 in
    rw (p.1, counts-is c.args.world.now.scenario (run c.args.world.now.scenario c.args.world.now.journal) c.trace.result.now c.trace.ensures.oldest_first)
    (IsWritten-then _ _ _ _ _ _ _ _ _ c.in_ok-write_frames.ensures (IsWritten-short _ _ _ _ _ _ _ c.in_err-write_entry_counts.ensures))

pub returns : goal.returns
returns g c =
    rw (counts-is c.args.world.now.scenario (run c.args.world.now.scenario c.args.world.now.journal) c.trace.result.now c.trace.ensures.oldest_first)
    (IsWritten-then _ _ _ _ _ _ _ _ _ c.in_ok-write_frames.ensures (IsWritten-then _ _ _ _ _ _ _ _ _ c.in_ok-write_entry_counts.ensures c.write_settled.ensures))
