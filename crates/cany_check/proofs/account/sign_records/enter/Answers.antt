use Rattle.std.proofs.Common.{◌∙◌, ◌++◌, [], ap, map, sym}
use Rattle.std.specs.BTreeMap.{insert_entry}
use Rattle.cany_base.specs.Scenario.{ScenarioParts}
use Rattle.cany_model.specs.Bus.State.{RunState}
use Rattle.cany_model.specs.Rules.Knowledge.{FailureSign}
use Rattle.cany_model.specs.Runs.Run.{run}
use Rattle.cany_check.specs.Accounts.Account.{is_sign_before, sign_in}
use Rattle.cany_check.specs.InOrder.{ascending}
use Rattle.cany_check.specs.Accounts.Records.{sign_entry, sign_key}
use Rattle.cany_check.proofs.Accounts.SignTable.{entered, sign_cmp}
use Rattle.cany_check.proofs.account.sign_records.enter.Goals as goal

pub returns-in_ok-insert-in-Failed : goal.returns-in_ok-insert-in-Failed
returns-in_ok-insert-in-Failed c = λ told so.
    let scenario : ScenarioParts = c.args.world.now.scenario in
    let s : RunState = run scenario c.args.world.now.journal in
    let sign : FailureSign = record { node = c.in-Failed.node; cycle = c.in-Failed.cycle } in
    let before = map (sign_entry s []) (ascending is_sign_before told) in
    c.in_ok-insert-in-Failed.ensures.entries
    ∙ ap (λ l. insert_entry sign_cmp l c.sign_key.result c.new_record.result) so
    ∙ ap (λ k. insert_entry sign_cmp before k c.new_record.result) c.sign_key.ensures
    ∙ ap (insert_entry sign_cmp before (sign_key sign)) c.new_record.ensures
    ∙ entered s told sign
    ∙ ap (λ e. map (sign_entry s []) (ascending is_sign_before (told ++ sign_in e))) (sym c.in-Failed.is)
