use Rattle.std.proofs.Common.{get_or, length, sym, ◌∙◌, ap, arith}
use Rattle.std.proofs.lemmas.Result.{err_from_is_err_and}
use Rattle.cany_log.proofs.WrittenFacts.{IsWritten-next, IsWritten-cut, IsWritten-all, concat-map}
use Rattle.cany_check.proofs.Texts.LineFacts.{sign_text, sign_told-at}
use Rattle.cany_check.proofs.text.sign_lines.write_signs.Goals as goal

pub loop-i-preserved : goal.loop-i-preserved
loop-i-preserved g c =
    let a = c.args.account.now in
    let signs = c.signs-sign-items.ensures.signs in
    let same = sign_told-at a _ _ c.loop-i.i _ _ c.requires signs c.loop-i-test.true c.sign-item.is c.index-told-i.is in
    IsWritten-next (sign_text a) _ _ _ _ _ _ _ _ _ c.loop-i.invariant (omega (arith, c.loop-i-test.true, ap length signs))
    (c.sign-item.is ∙ ap (λ l. get_or l c.loop-i.i c.sign-item.result) signs) (rw (sym same) c.in_ok-write_sign.ensures)

pub returns-in_err-write_sign : goal.returns-in_err-write_sign
returns-in_err-write_sign g c =
    let a = c.args.account.now in
    let p = err_from_is_err_and c.from_residual.result c.from_residual.ensures.1 in
    let signs = c.signs-sign-items.ensures.signs in
    let same = sign_told-at a _ _ c.loop-i.i _ _ c.requires signs c.loop-i-test.true c.sign-item.is c.index-told-i.is in
    rw (p.1, concat-map (sign_text a) a.signs) (IsWritten-cut (sign_text a) _ _ _ _ _ _ _ _ _ _ c.loop-i.invariant
    (omega (arith, c.loop-i-test.true, ap length signs)) (c.sign-item.is ∙ ap (λ l. get_or l c.loop-i.i c.sign-item.result) signs)
    (rw (sym same) c.in_err-write_sign.ensures))

pub returns : goal.returns
returns g c =
    let a = c.args.account.now in
    rw (concat-map (sign_text a) a.signs) (IsWritten-all (sign_text a) _ _ _ _ _ _ c.loop-i.invariant
    (omega (arith, c.loop-i-test.false, ap length c.signs-sign-items.ensures.signs)))
