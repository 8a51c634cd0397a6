use Rattle.std.proofs.Common.{refl, ◌∙◌}
use Rattle.cany_check.specs.Deciding.Accuracy.{accusations}
use Rattle.std.proofs.lemmas.Result.{err_from_is_err_and}
use Rattle.cany_log.proofs.WrittenFacts.{IsWritten-then, IsWritten-short}
use Rattle.cany_check.proofs.Texts.TextFacts.{membership-is}
use Rattle.cany_check.proofs.text.write_membership.Goals as goal

pub returns-in_err-write_lines : goal.returns-in_err-write_lines
returns-in_err-write_lines g c =
    let p = err_from_is_err_and c.from_residual.result c.from_residual.ensures.1 in
    rw (p.1, membership-is c.args.account.now c.as_slice.result.now (accusations c.args.account.now) (c.as_slice.ensures.value ∙ (c.views.ensures.apart ∙ c.requires.views)) refl)
    (IsWritten-short _ _ _ _ _ _ _ c.in_err-write_lines.ensures)

pub returns-in_err-write_signs : goal.returns-in_err-write_signs
returns-in_err-write_signs g c =
    let p = err_from_is_err_and c.from_residual-in_err-write_signs.result c.from_residual-in_err-write_signs.ensures.1 in
    rw (p.1, membership-is c.args.account.now c.as_slice.result.now (accusations c.args.account.now) (c.as_slice.ensures.value ∙ (c.views.ensures.apart ∙ c.requires.views)) refl)
    (IsWritten-then _ _ _ _ _ _ _ _ _ c.in_ok-write_lines.ensures (IsWritten-short _ _ _ _ _ _ _ c.in_err-write_signs.ensures))

pub returns : goal.returns
returns g c =
    rw (membership-is c.args.account.now c.as_slice.result.now c.accusations.result.now (c.as_slice.ensures.value ∙ (c.views.ensures.apart ∙ c.requires.views)) (c.accusations.ensures ∙ c.requires.accusations))
    (IsWritten-then _ _ _ _ _ _ _ _ _ c.in_ok-write_lines.ensures (IsWritten-then _ _ _ _ _ _ _ _ _ c.in_ok-write_signs.ensures c.write_lines-2.ensures))
