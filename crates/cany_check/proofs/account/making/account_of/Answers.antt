use Rattle.std.proofs.Common.{◌≡◌, ◌∙◌, List, ap, map, subst, sym}
use Rattle.cany_base.specs.Params.{Parameters}
use Rattle.cany_base.specs.Scenario.{ScenarioParts}
use Rattle.cany_model.specs.Bus.State.{RunState}
use Rattle.cany_model.specs.Rules.Messages.{messages_of}
use Rattle.cany_model.specs.Runs.Run.{run}
use Rattle.cany_check.specs.declared.account.record.LogRecord.{LogRecord}
use Rattle.cany_check.specs.declared.account.record.MessageRecord.{MessageRecord}
use Rattle.cany_check.specs.declared.account.record.SignRecord.{SignRecord}
use Rattle.cany_check.specs.Accounts.Account.{AccountParts, account_of, logs_of, message_record, sign_record, signs_told}
use Rattle.cany_check.specs.Accounts.AccountFields.{log_parts}
use Rattle.cany_check.specs.Accounts.Orderly.{IsOrderly}
use Rattle.cany_check.proofs.Accounts.OrderlyRun.{orderly_run}
use Rattle.cany_check.proofs.account.making.account_of.Goals as goal

-- the parts are those of the account of the run
whole : (scenario : ScenarioParts) (s : RunState) (params : Parameters) (messages : List MessageRecord) (logs : List LogRecord) (signs : List SignRecord)
    → params ≡ scenario.params → messages ≡ map (message_record scenario s) (messages_of scenario.sends) → map log_parts logs ≡ logs_of scenario s
    → signs ≡ map (sign_record s) (signs_told (map log_parts logs))
    → ◌≡◌ {A = AccountParts} (record { params = params; messages = messages; logs = map log_parts logs; signs = signs }) (account_of scenario s)
unfolding account_of
whole scenario s params messages logs signs p m l g =
    let told : signs ≡ map (sign_record s) (signs_told (logs_of scenario s)) = g ∙ ap (λ x. map (sign_record s) (signs_told x)) l in
    λ k. record { params = p k; messages = m k; logs = l k; signs = told k }

pub of_parts-requires : goal.of_parts-requires
of_parts-requires c =
    let scenario : ScenarioParts = c.args.world.now.scenario in
    let same : c.scenario.result.now ≡ scenario = c.scenario.ensures in
    subst IsOrderly
    (sym (whole scenario (run scenario c.args.world.now.journal) c.params-params.result.now c.in_ok-messages.messages.items c.in_ok-logs.logs.items c.in_ok-signs.signs.items
    (c.params-params.ensures.params ∙ ap (λ (x : ScenarioParts). x.params) same) c.in_ok-messages.ensures c.in_ok-logs.ensures
    (c.in_ok-signs.ensures ∙ ap (λ (x : List LogRecord). map (sign_record (run scenario c.args.world.now.journal)) (signs_told (map log_parts x))) c.as_slice.ensures.value)))
    (orderly_run scenario c.args.world.now.journal (rw same at c.params-params.ensures.legal))

pub returns : goal.returns
returns c =
    let scenario : ScenarioParts = c.args.world.now.scenario in
    c.of_parts.ensures
    ∙ whole scenario (run scenario c.args.world.now.journal) c.params-params.result.now c.in_ok-messages.messages.items c.in_ok-logs.logs.items c.in_ok-signs.signs.items
    (c.params-params.ensures.params ∙ ap (λ (x : ScenarioParts). x.params) c.scenario.ensures) c.in_ok-messages.ensures c.in_ok-logs.ensures
    (c.in_ok-signs.ensures ∙ ap (λ (x : List LogRecord). map (sign_record (run scenario c.args.world.now.journal)) (signs_told (map log_parts x))) c.as_slice.ensures.value)
