use Rattle.std.proofs.Common.{◌≡◌, ◌∙◌, ap, subst}
use Rattle.std.proofs.lemmas.Result.{err_from_is_err_and}
use Rattle.cany_io.specs.Sink.{Takes, TakesPrefix}
use Rattle.cany_media.specs.MediaText.{medium_lines}
use Rattle.cany_media.proofs.TopFacts.{text_made}
use Rattle.cany_media.proofs.top.MediaCommand.answer.Goals as goal

pub returns-in_err-write_before_report-clause-prefix : goal.returns-in_err-write_before_report-clause-prefix
returns-in_err-write_before_report-clause-prefix g c =
    let lines : c.deref.result.now ≡ medium_lines c.args.plan.now = c.deref.ensures.value ∙ c.in_ok-text.ensures ∙ ap medium_lines c.faults.ensures in
    let p = err_from_is_err_and c.from_residual-in_err-write_before_report.result c.from_residual-in_err-write_before_report.ensures.1 in
    rw p.1 (λ failed words named.
    subst (λ text. TakesPrefix (g.K.Sink.taken c.args.sink.now) text (g.K.Sink.taken c.write_before_report.new.sink))
    (text_made words c.args.plan.now c.deref.result.now c.args.world.now.scenario c.args.world.now.journal named lines) c.write_before_report.ensures.prefix)

pub returns-clause-written : goal.returns-clause-written
returns-clause-written g c = λ words named.
    let lines : c.deref.result.now ≡ medium_lines c.args.plan.now = c.deref.ensures.value ∙ c.in_ok-text.ensures ∙ ap medium_lines c.faults.ensures in
    subst (λ text. Takes (g.K.Sink.taken c.args.sink.now) text (g.K.Sink.taken c.write_before_report.new.sink))
    (text_made words c.args.plan.now c.deref.result.now c.args.world.now.scenario c.args.world.now.journal named lines) c.in_ok-write_before_report.ensures.bytes
