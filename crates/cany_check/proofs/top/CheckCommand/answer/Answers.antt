use Rattle.std.proofs.Common.{◌∙◌, subst, sym}
use Rattle.std.proofs.lemmas.Result.{err_from_is_err_and}
use Rattle.cany_io.specs.Sink.{Takes, TakesPrefix}
use Rattle.cany_check.specs.Top.{IsVerdict}
use Rattle.cany_check.proofs.TopFacts.{is_verdict, status_made, text_made}
use Rattle.cany_check.proofs.top.CheckCommand.answer.Goals as goal

pub returns-in_err-write_check-clause-prefix : goal.returns-in_err-write_check-clause-prefix
returns-in_err-write_check-clause-prefix g c =
    let w = c.args.world.now in
    let p = err_from_is_err_and c.from_residual-in_err-write_check.result c.from_residual-in_err-write_check.ensures.1 in
    rw p.1 (λ failed words named.
    subst (λ text. TakesPrefix (g.K.Sink.taken c.args.sink.now) text (g.K.Sink.taken c.write_check.new.sink))
    (text_made w.scenario w.journal _ _ _ c.in_ok-account.ensures c.hypothesis.ensures.first (c.deref.ensures.value ∙ c.in_ok-unused.ensures))
    c.write_check.ensures.prefix)

pub returns-clause-written : goal.returns-clause-written
returns-clause-written g c = λ words named.
    let w = c.args.world.now in
    subst (λ text. Takes (g.K.Sink.taken c.args.sink.now) text (g.K.Sink.taken c.write_check.new.sink))
    (text_made w.scenario w.journal _ _ _ c.in_ok-account.ensures c.hypothesis.ensures.first (c.deref.ensures.value ∙ c.in_ok-unused.ensures))
    c.in_ok-write_check.ensures.bytes

pub returns-clause-success : goal.returns-clause-success
returns-clause-success g c = λ words named.
    c.status.ensures _ c.in_ok-findings.ensures
    ∙ status_made c.args.world.now.scenario c.args.world.now.journal _ c.in_ok-account.ensures

pub returns-clause-status : goal.returns-clause-status
returns-clause-status g c =
    subst IsVerdict (sym (c.status.ensures _ c.in_ok-findings.ensures)) (is_verdict _)
