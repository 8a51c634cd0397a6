use Rattle.std.proofs.lemmas.Result.{err_from_is_err_and}
use Rattle.cany_log.proofs.WrittenFacts.{IsWritten-nothing, IsWritten-next, IsWritten-cut, IsWritten-all}
use Rattle.cany_watch.specs.WatchText.{read_text}
use Rattle.cany_watch.proofs.text.write_all_read.Goals as goal

pub loop-read-init : goal.loop-read-init
loop-read-init g c = IsWritten-nothing _ _

pub loop-read-preserved : goal.loop-read-preserved
loop-read-preserved g c = IsWritten-next read_text _ _ _ _ _ _ _ _ _ c.loop-read.invariant c.loop-read-test.true c.read-item.is c.in_ok-write_read.ensures

pub returns-in_err-write_read : goal.returns-in_err-write_read
returns-in_err-write_read g c =
    let p = err_from_is_err_and c.from_residual.result c.from_residual.ensures.1 in
    rw p.1 (IsWritten-cut read_text _ _ _ _ _ _ _ _ _ _ c.loop-read.invariant c.loop-read-test.true c.read-item.is c.in_err-write_read.ensures)

pub returns : goal.returns
returns g c = IsWritten-all read_text _ _ _ _ _ _ c.loop-read.invariant c.loop-read-test.false
