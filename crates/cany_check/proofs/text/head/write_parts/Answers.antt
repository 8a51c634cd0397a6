use Rattle.std.proofs.lemmas.List.{get_or_default}
use Rattle.std.proofs.lemmas.Result.{err_from_is_err_and}
use Rattle.cany_check.specs.Texts.HeadParts.{part_line}
use Rattle.cany_log.proofs.WrittenFacts.{IsWritten-nothing, IsWritten-next, IsWritten-cut, IsWritten-all, concat-map}
use Rattle.cany_check.proofs.text.head.write_parts.Goals as goal

pub loop-part-init : goal.loop-part-init
loop-part-init g c = IsWritten-nothing _ _

pub loop-part-preserved : goal.loop-part-preserved
loop-part-preserved g c =
    IsWritten-next (part_line c.args.account.now) _ _ _ _ _ _ _ _ _ c.loop-part.invariant c.loop-part-test.true (get_or_default c.args.parts.now _ _ _ c.loop-part-test.true) c.in_ok-write_part.ensures

pub returns-in_err-write_part : goal.returns-in_err-write_part
returns-in_err-write_part g c =
    let p = err_from_is_err_and c.from_residual.result c.from_residual.ensures.1 in
    rw (p.1, concat-map (part_line c.args.account.now) c.args.parts.now) (IsWritten-cut (part_line c.args.account.now) _ _ _ _ _ _ _ _ _ _ c.loop-part.invariant c.loop-part-test.true (get_or_default c.args.parts.now _ _ _ c.loop-part-test.true)
    c.in_err-write_part.ensures)

pub returns : goal.returns
returns g c =
    rw (concat-map (part_line c.args.account.now) c.args.parts.now) (IsWritten-all (part_line c.args.account.now) _ _ _ _ _ _ c.loop-part.invariant c.loop-part-test.false)
