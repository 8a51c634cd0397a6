use Rattle.std.proofs.lemmas.Result.{err_from_is_err_and}
use Rattle.cany_log.proofs.WrittenFacts.{IsWritten-short, IsWritten-then}
use Rattle.cany_replica.proofs.TextFacts.{node_text_is}
use Rattle.cany_replica.proofs.text.write_node.Goals as goal

pub returns-in_err-write_node_line : goal.returns-in_err-write_node_line
returns-in_err-write_node_line g c =
    let p = err_from_is_err_and c.from_residual.result c.from_residual.ensures.1 in
    let text = node_text_is _ _ _ _ _ _ _ c.log-log.ensures c.incarnation-inc.ensures c.stopped.ensures c.applied_in-count.ensures in
    rw (p.1, text) (IsWritten-short _ _ _ _ _ _ _ c.in_err-write_node_line.ensures)

pub returns-in_err-write_answers : goal.returns-in_err-write_answers
returns-in_err-write_answers g c =
    let p = err_from_is_err_and c.from_residual-in_err-write_answers.result c.from_residual-in_err-write_answers.ensures.1 in
    let text = node_text_is _ _ _ _ _ _ _ c.log-log.ensures c.incarnation-inc.ensures c.stopped.ensures c.applied_in-count.ensures in
    rw (p.1, text) (IsWritten-then _ _ _ _ _ _ _ _ _ c.in_ok-write_node_line.ensures
    (IsWritten-short _ _ _ _ _ _ _ (rw c.empty-table.ensures at c.in_err-write_answers.ensures.written)))

pub returns : goal.returns
returns g c =
    let text = node_text_is _ _ _ _ _ _ _ c.log-log.ensures c.incarnation-inc.ensures c.stopped.ensures c.applied_in-count.ensures in
    rw text (IsWritten-then _ _ _ _ _ _ _ _ _ c.in_ok-write_node_line.ensures
    (IsWritten-then _ _ _ _ _ _ _ _ _ (rw c.empty-table.ensures at c.in_ok-write_answers.ensures.written)
    (rw (c.in_ok-write_answers.ensures.table, c.empty-table.ensures) at c.write_keys.ensures)))
