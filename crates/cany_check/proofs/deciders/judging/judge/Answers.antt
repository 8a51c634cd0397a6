use Rattle.std.proofs.Common.{◌≡◌, ◌∙◌, List, ap}
use Rattle.cany_base.specs.declared.message.Service.{Service}
use Rattle.cany_base.specs.declared.message.Service.TheVariants.{Ed, Rel, Tot}
use Rattle.cany_check.specs.declared.deciders.findings.Told.{Told}
use Rattle.cany_check.specs.declared.account.record.MessageRecord.{MessageRecord}
use Rattle.cany_check.specs.Deciding.Judged.{fates_by}
use Rattle.cany_check.specs.Deciding.Verdict.{judgement, fates_of_service, of_fates}
use Rattle.cany_check.proofs.Deciding.JudgedFacts.{fates_told}
use Rattle.cany_check.proofs.deciders.judging.judge.Goals as goal

pub returns : goal.returns
unfolding judgement
returns c =
    let a = c.args.account.now in
    let told = c.as_slice.ensures.value ∙ c.in_ok-messages.ensures in
    let fates : (by : Service) → of_fates (fates_by by c.messages.result.now c.as_slice.result.now) ≡ of_fates (fates_of_service a by) =
    λ by. ap (λ (l : List MessageRecord). of_fates (fates_by by l c.as_slice.result.now)) c.messages.ensures.messages
    ∙ ap (λ (l : List Told). of_fates (fates_by by a.messages l)) told ∙ ap of_fates (fates_told by a a.messages) in
    record {
      wrong = c.in_ok-wrong.ensures;
      messages = c.in_ok-messages.ensures;
      signs = c.in_ok-signs.ensures;
      parting = c.in_ok-parting.ensures;
      numbers = c.in_ok-views.ensures.numbers;
      views = c.in_ok-views.ensures.apart;
      accusations = c.in_ok-accusations.ensures;
      ed = c.of_messages-agreements.ensures.ed ∙ fates Ed;
      rel = c.of_messages-agreements.ensures.rel ∙ fates Rel;
      tot = c.of_messages-agreements.ensures.tot ∙ fates Tot;
    }
