use Rattle.std.proofs.Common.{◌≡◌, ◌∙◌, List, ap, get_or, length, refl}
use Rattle.std.specs.Prelude.{Some, slice_get}
use Rattle.std.proofs.lemmas.Option.{slice_get_read}
use Rattle.cany_base.specs.declared.message.SendAsk.{SendAsk}
use Rattle.cany_base.specs.Scenario.{ScenarioParts}
use Rattle.cany_model.specs.Runs.Run.{run}
use Rattle.cany_check.proofs.Accounts.RecordFacts.{unsent_at}
use Rattle.cany_check.proofs.account.message_records.unsent_record.Goals as goal

pub returns : goal.returns
returns c =
    let scenario : ScenarioParts = c.args.world.now.scenario in
    let send : SendAsk = c.index-sends-index.result in
    let sends : c.sends.result.now ≡ scenario.sends = c.sends.ensures ∙ ap (λ (x : ScenarioParts). x.sends) c.scenario.ensures in
    let at : slice_get scenario.sends c.args.index ≡ Some send =
    slice_get_read scenario.sends (length scenario.sends) c.args.index send refl c.requires
    (c.index-sends-index.is ∙ ap (λ (l : List SendAsk). get_or l c.args.index send) sends) in
    unsent_at scenario (run scenario c.args.world.now.journal) c.args.index send at c.key.result c.queued.result c.waiting.result c.ahead.result
    c.key.ensures c.queued.ensures c.waiting.ensures.set c.ahead.ensures.set
