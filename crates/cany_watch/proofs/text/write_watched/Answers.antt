use Rattle.std.proofs.lemmas.Result.{err_from_is_err_and}
use Rattle.cany_log.proofs.WrittenFacts.{IsWritten-short, IsWritten-then}
use Rattle.cany_watch.specs.WatchText.{first_line, last_line}
use Rattle.cany_watch.proofs.text.write_watched.Goals as goal

pub returns-in_err-write_short_line : goal.returns-in_err-write_short_line
unfolding first_line
returns-in_err-write_short_line g c =
    let p = err_from_is_err_and c.from_residual.result c.from_residual.ensures.1 in
    rw p.1 (IsWritten-short _ _ _ _ _ _ _ (IsWritten-short _ _ _ _ _ _ _ (IsWritten-short _ _ _ _ _ _ _ c.in_err-write_short_line.ensures)))

pub returns-in_err-write_node_line : goal.returns-in_err-write_node_line
unfolding first_line
returns-in_err-write_node_line g c =
    let p = err_from_is_err_and c.from_residual-in_err-write_node_line.result c.from_residual-in_err-write_node_line.ensures.1 in
    rw p.1 (IsWritten-short _ _ _ _ _ _ _ (IsWritten-short _ _ _ _ _ _ _
    (IsWritten-then _ _ _ _ _ _ _ _ _ c.in_ok-write_short_line.ensures c.in_err-write_node_line.ensures)))

pub returns-in_err-write_all_read : goal.returns-in_err-write_all_read
unfolding first_line
returns-in_err-write_all_read g c =
    let p = err_from_is_err_and c.from_residual-in_err-write_all_read.result c.from_residual-in_err-write_all_read.ensures.1 in
    rw p.1 (IsWritten-short _ _ _ _ _ _ _ (IsWritten-then _ _ _ _ _ _ _ _ _
    (IsWritten-then _ _ _ _ _ _ _ _ _ c.in_ok-write_short_line.ensures c.in_ok-write_node_line.ensures) c.in_err-write_all_read.ensures))

pub returns : goal.returns
unfolding first_line last_line
returns g c =
    IsWritten-then _ _ _ _ _ _ _ _ _ (IsWritten-then _ _ _ _ _ _ _ _ _
    (IsWritten-then _ _ _ _ _ _ _ _ _ c.in_ok-write_short_line.ensures c.in_ok-write_node_line.ensures) c.in_ok-write_all_read.ensures)
    c.write_short_line-2.ensures
