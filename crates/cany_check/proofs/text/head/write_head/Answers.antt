use Rattle.std.proofs.Common.{◌∙◌, ap}
use Rattle.std.proofs.lemmas.Result.{err_from_is_err_and}
use Rattle.cany_base.specs.Params.{Parameters}
use Rattle.cany_log.proofs.WrittenFacts.{IsWritten-then, IsWritten-short}
use Rattle.cany_check.proofs.Texts.HeadFacts.{head-is}
use Rattle.cany_check.proofs.text.head.write_head.Goals as goal

pub returns-in_err-write_first_line : goal.returns-in_err-write_first_line
returns-in_err-write_first_line g c =
    let p = err_from_is_err_and c.from_residual.result c.from_residual.ensures.1 in
    rw (p.1, head-is c.args.account.now c.args.found c.behind-account.inside.format (ap (λ (p : Parameters). p.format) (c.behind-account.view_is ∙ c.params.ensures)))
    (IsWritten-short _ _ _ _ _ _ _ c.in_err-write_first_line.ensures)

pub returns-in_err-write_hypothesis : goal.returns-in_err-write_hypothesis
returns-in_err-write_hypothesis g c =
    let p = err_from_is_err_and c.from_residual-in_err-write_hypothesis.result c.from_residual-in_err-write_hypothesis.ensures.1 in
    rw (p.1, head-is c.args.account.now c.args.found c.behind-account.inside.format (ap (λ (p : Parameters). p.format) (c.behind-account.view_is ∙ c.params.ensures)))
    (IsWritten-then _ _ _ _ _ _ _ _ _ c.in_ok-write_first_line.ensures (IsWritten-short _ _ _ _ _ _ _ c.in_err-write_hypothesis.ensures))

pub returns : goal.returns
returns g c =
    rw (head-is c.args.account.now c.args.found c.behind-account.inside.format (ap (λ (p : Parameters). p.format) (c.behind-account.view_is ∙ c.params.ensures)))
    (IsWritten-then _ _ _ _ _ _ _ _ _ c.in_ok-write_first_line.ensures (IsWritten-then _ _ _ _ _ _ _ _ _ c.in_ok-write_hypothesis.ensures c.write_parts.ensures))
