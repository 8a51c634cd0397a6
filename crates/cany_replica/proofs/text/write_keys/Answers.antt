use Rattle.std.proofs.lemmas.Result.{err_from_is_err_and}
use Rattle.cany_log.proofs.ReportFacts.{at_number, below_length, past_length}
use Rattle.cany_log.proofs.WrittenFacts.{IsWritten-nothing, IsWritten-next, IsWritten-cut, IsWritten-all}
use Rattle.cany_replica.proofs.TextFacts.{key_lines_text, key_part}
use Rattle.cany_replica.proofs.text.write_keys.Goals as goal

pub loop-key-init : goal.loop-key-init
loop-key-init g c = IsWritten-nothing _ _

pub loop-key-preserved : goal.loop-key-preserved
loop-key-preserved g c =
    IsWritten-next (key_part c.args.table.now) _ _ _ _ _ _ _ _ _ c.loop-key.invariant (below_length _ _ c.loop-key-test.true) (at_number _ _ c.loop-key-test.true)
    (rw c.get.ensures at c.in_ok-write_value.ensures)

pub returns-in_err-write_value : goal.returns-in_err-write_value
returns-in_err-write_value g c =
    let p = err_from_is_err_and c.from_residual.result c.from_residual.ensures.1 in
    rw (p.1, key_lines_text) (IsWritten-cut (key_part c.args.table.now) _ _ _ _ _ _ _ _ _ _ c.loop-key.invariant (below_length _ _ c.loop-key-test.true)
    (at_number _ _ c.loop-key-test.true) (rw c.get.ensures at c.in_err-write_value.ensures))

pub returns : goal.returns
returns g c =
    rw key_lines_text (IsWritten-all (key_part c.args.table.now) _ _ _ _ _ _ c.loop-key.invariant (past_length _ _ c.loop-key-test.false))
