use Rattle.std.proofs.lemmas.Result.{err_from_is_err_and}
use Rattle.cany_log.proofs.SummaryFacts.{summary-is}
use Rattle.cany_log.proofs.WrittenFacts.{IsWritten-then, IsWritten-short}
use Rattle.cany_log.proofs.summary.write_summary.Goals as goal

pub returns-in_err-write_storm : goal.returns-in_err-write_storm
returns-in_err-write_storm g c =
    let p = err_from_is_err_and c.from_residual.result c.from_residual.ensures.1 in
    rw (p.1, summary-is) (IsWritten-short _ _ _ _ _ _ _ c.in_err-write_storm.ensures)

pub returns-in_err-write_counts : goal.returns-in_err-write_counts
returns-in_err-write_counts g c =
    let p = err_from_is_err_and c.from_residual-in_err-write_counts.result c.from_residual-in_err-write_counts.ensures.1 in
    rw (p.1, summary-is) (IsWritten-then _ _ _ _ _ _ _ _ _ c.in_ok-write_storm.ensures (IsWritten-short _ _ _ _ _ _ _ c.in_err-write_counts.ensures))

pub returns : goal.returns
returns g c =
    rw summary-is (IsWritten-then _ _ _ _ _ _ _ _ _ c.in_ok-write_storm.ensures (IsWritten-then _ _ _ _ _ _ _ _ _ c.in_ok-write_counts.ensures c.write_ending.ensures))
