use Rattle.std.proofs.Common.{◌∙◌, List, ap, arith, map, refl, subst, sym}
use Rattle.std.proofs.lemmas.List.{take_all}
use Rattle.cany_base.specs.Scenario.{ScenarioParts}
use Rattle.cany_model.specs.Bus.State.{RunState}
use Rattle.cany_model.specs.Rules.Messages.{messages_of}
use Rattle.cany_model.specs.Runs.Run.{run}
use Rattle.cany_check.specs.declared.account.record.MessageRecord.{MessageRecord}
use Rattle.cany_check.specs.Accounts.Places.{AreNumbered}
use Rattle.cany_check.specs.Accounts.Account.{unsent_record}
use Rattle.cany_check.specs.Accounts.Records.{message_slots, with_slots}
use Rattle.cany_check.proofs.Accounts.NumberedFacts.{are_numbered}
use Rattle.cany_check.proofs.Accounts.RecordFacts.{whole_records}
use Rattle.cany_check.proofs.account.message_records.records_of_messages.Goals as goal

pub slots_of_messages-requires : goal.slots_of_messages-requires
slots_of_messages-requires c =
    let scenario : ScenarioParts = c.args.world.now.scenario in
    subst AreNumbered (sym (c.as_slice.ensures.value ∙ c.in_ok-unsent.ensures))
    (are_numbered (unsent_record scenario (run scenario c.args.world.now.journal)) (λ m. refl) scenario.sends)

pub returns : goal.returns
returns c =
    let scenario : ScenarioParts = c.args.world.now.scenario in
    let s : RunState = run scenario c.args.world.now.journal in
    let whole = λ (m : MessageRecord). with_slots m (message_slots s.trace m) in
    c.loop-i.invariant
    ∙ ap (λ (l : List MessageRecord). map whole l) (take_all c.loop-i.i c.in_ok-unsent.unsent.items (omega (arith, c.in_ok-unsent.unsent.ok.0)))
    ∙ ap (λ (l : List MessageRecord). map whole l) c.in_ok-unsent.ensures
    ∙ whole_records scenario s (messages_of scenario.sends)
