use Rattle.std.proofs.Common.{◌≡◌, ◌+◌, ◌∙◌, List, [], ◌∷◌, ◌++◌, ap, arith, length, map, sym, take}
use Rattle.std.proofs.lemmas.List.{length-map, take_all, take_more}
use Rattle.std.proofs.lemmas.Option.{get_or_from_slice_get, slice_get_within}
use Rattle.cany_base.specs.declared.message.SendAsk.{SendAsk}
use Rattle.cany_base.specs.Scenario.{ScenarioParts}
use Rattle.cany_model.specs.Rules.Messages.{messages_of}
use Rattle.cany_model.specs.Runs.Run.{run}
use Rattle.cany_model.proofs.Rules.Services.MessageKeys.{length-messages_of}
use Rattle.cany_check.specs.declared.account.record.MessageRecord.{MessageRecord}
use Rattle.cany_check.specs.Accounts.Account.{unsent_record}
use Rattle.cany_check.proofs.account.message_records.unsent_records.Goals as goal

pub loop-i-preserved : goal.loop-i-preserved
loop-i-preserved c =
    let scenario : ScenarioParts = c.args.world.now.scenario in
    let all : List MessageRecord = map (unsent_record scenario (run scenario c.args.world.now.journal)) (messages_of scenario.sends) in
    let x : MessageRecord = c.unsent_record.result in
    let i = c.loop-i.i in
    let more : take (i + 1) all ≡ take i all ++ x ∷ [] =
    take_more all i x (slice_get_within all i x c.unsent_record.ensures)
    ∙ ap (λ y. take i all ++ y ∷ []) (get_or_from_slice_get all i x x c.unsent_record.ensures) in
    c.in_ok-push.ensures.items ∙ ap (λ (l : List MessageRecord). l ++ x ∷ []) c.loop-i.invariant ∙ sym more

pub returns : goal.returns
returns c =
    let scenario : ScenarioParts = c.args.world.now.scenario in
    let s = run scenario c.args.world.now.journal in
    let all : List MessageRecord = map (unsent_record scenario s) (messages_of scenario.sends) in
    let sends : c.sends-count.result.now ≡ scenario.sends = c.sends-count.ensures ∙ ap (λ (x : ScenarioParts). x.sends) c.scenario.ensures in
    c.loop-i.invariant
    ∙ take_all c.loop-i.i all (omega (
      arith,
      length-map (messages_of scenario.sends) (unsent_record scenario s),
      length-messages_of scenario.sends,
      ap (λ (l : List SendAsk). length l) sends,
      c.loop-i-test.false,
    ))
