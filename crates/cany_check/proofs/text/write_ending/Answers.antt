use Rattle.std.proofs.lemmas.Result.{err_from_is_err_and}
use Rattle.cany_log.proofs.WrittenFacts.{IsWritten-then, IsWritten-short}
use Rattle.cany_check.proofs.Texts.TextFacts.{ending-is}
use Rattle.cany_check.proofs.text.write_ending.Goals as goal

pub returns-in_err-write_lines : goal.returns-in_err-write_lines
returns-in_err-write_lines g c =
    let p = err_from_is_err_and c.from_residual.result c.from_residual.ensures.1 in
    rw (p.1, ending-is c.args.unused.now)
    (IsWritten-short _ _ _ _ _ _ _ c.in_err-write_lines.ensures)

pub returns : goal.returns
returns g c =
    rw (ending-is c.args.unused.now)
    (IsWritten-then _ _ _ _ _ _ _ _ _ c.in_ok-write_lines.ensures c.write_short_line.ensures)
