use Rattle.std.proofs.lemmas.Result.{err_from_is_err_and}
use Rattle.cany_log.proofs.WrittenFacts.{IsWritten-nothing, IsWritten-next, IsWritten-cut, IsWritten-all, concat-map}
use Rattle.cany_check.proofs.text.lines.write_lines.Goals as goal

pub loop-item-init : goal.loop-item-init
loop-item-init g c = IsWritten-nothing _ _

pub loop-item-preserved : goal.loop-item-preserved
loop-item-preserved g c =
    IsWritten-next g.L.Line.line _ _ _ _ _ _ _ _ _ c.loop-item.invariant c.loop-item-test.true c.item-item.is c.in_ok-write.ensures

pub returns-in_err-write : goal.returns-in_err-write
returns-in_err-write g c =
    let p = err_from_is_err_and c.from_residual.result c.from_residual.ensures.1 in
    rw (p.1, concat-map g.L.Line.line c.args.items.now) (IsWritten-cut g.L.Line.line _ _ _ _ _ _ _ _ _ _ c.loop-item.invariant c.loop-item-test.true c.item-item.is
    c.in_err-write.ensures)

pub returns : goal.returns
returns g c = rw (concat-map g.L.Line.line c.args.items.now) (IsWritten-all g.L.Line.line _ _ _ _ _ _ c.loop-item.invariant c.loop-item-test.false)
