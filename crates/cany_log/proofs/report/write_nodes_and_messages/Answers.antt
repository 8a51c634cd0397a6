use Rattle.std.proofs.lemmas.Result.{err_from_is_err_and}
use Rattle.cany_log.proofs.ReportFacts.{nodes_and_messages-is}
use Rattle.cany_log.proofs.WrittenFacts.{IsWritten-then, IsWritten-short}
use Rattle.cany_log.proofs.report.write_nodes_and_messages.Goals as goal

pub returns-in_err-write_nodes : goal.returns-in_err-write_nodes
returns-in_err-write_nodes g c =
    let p = err_from_is_err_and c.from_residual.result c.from_residual.ensures.1 in
    rw (p.1, nodes_and_messages-is) (IsWritten-short _ _ _ _ _ _ _ c.in_err-write_nodes.ensures.written)

pub returns-in_err-write_messages : goal.returns-in_err-write_messages
returns-in_err-write_messages g c =
    let p = err_from_is_err_and c.from_residual-in_err-write_messages.result c.from_residual-in_err-write_messages.ensures.1 in
    rw (p.1, nodes_and_messages-is) (IsWritten-then _ _ _ _ _ _ _ _ _ c.in_ok-write_nodes.ensures.written (IsWritten-short _ _ _ _ _ _ _ c.in_err-write_messages.ensures.written))

pub returns : goal.returns
returns g c =
    rw nodes_and_messages-is (IsWritten-then _ _ _ _ _ _ _ _ _ c.in_ok-write_nodes.ensures.written (IsWritten-then _ _ _ _ _ _ _ _ _ c.in_ok-write_messages.ensures.written c.write_line.ensures))
