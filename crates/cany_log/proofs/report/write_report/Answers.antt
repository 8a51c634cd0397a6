use Rattle.std.proofs.lemmas.Result.{err_from_is_err_and}
use Rattle.cany_log.proofs.ReportFacts.{report-is}
use Rattle.cany_log.proofs.WrittenFacts.{IsWritten-then, IsWritten-short}
use Rattle.cany_log.proofs.report.write_report.Goals as goal

pub returns-in_err-write_heading : goal.returns-in_err-write_heading
returns-in_err-write_heading g c =
    let p = err_from_is_err_and c.from_residual.result c.from_residual.ensures.1 in
    rw (p.1, report-is) (IsWritten-short _ _ _ _ _ _ _ c.in_err-write_heading.ensures.written)

pub returns-in_err-write_bus_part : goal.returns-in_err-write_bus_part
returns-in_err-write_bus_part g c =
    let p = err_from_is_err_and c.from_residual-in_err-write_bus_part.result c.from_residual-in_err-write_bus_part.ensures.1 in
    rw (p.1, report-is) (IsWritten-then _ _ _ _ _ _ _ _ _ c.in_ok-write_heading.ensures.written (IsWritten-short _ _ _ _ _ _ _ c.in_err-write_bus_part.ensures.written))

pub returns : goal.returns
returns g c =
    rw report-is (IsWritten-then _ _ _ _ _ _ _ _ _ c.in_ok-write_heading.ensures.written (IsWritten-then _ _ _ _ _ _ _ _ _ c.in_ok-write_bus_part.ensures.written c.write_nodes_and_messages.ensures))
