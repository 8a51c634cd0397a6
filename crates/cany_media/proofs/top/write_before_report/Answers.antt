use Rattle.std.proofs.lemmas.Result.{err_from_is_err_and}
-- no contract speaks of two writes, one after another
use Rattle.cany_log.proofs.WrittenFacts.{IsWritten-short, IsWritten-then}
use Rattle.cany_media.proofs.top.write_before_report.Goals as goal

pub returns-in_err-write_text : goal.returns-in_err-write_text
returns-in_err-write_text g c =
    let p = err_from_is_err_and c.from_residual.result c.from_residual.ensures.1 in
    rw p.1 (IsWritten-short _ _ _ _ _ _ _ c.in_err-write_text.ensures)

pub returns : goal.returns
returns g c = IsWritten-then _ _ _ _ _ _ _ _ _ c.in_ok-write_text.ensures c.write_report.ensures
