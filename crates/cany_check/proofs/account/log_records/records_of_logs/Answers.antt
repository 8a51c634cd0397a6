use Rattle.std.proofs.Common.{◌≡◌, ◌∙◌, ◌++◌, List, ap, map}
use Rattle.cany_base.specs.Scenario.{ScenarioParts}
use Rattle.cany_model.specs.Runs.Run.{run}
use Rattle.cany_check.specs.declared.account.record.LogRecord.{LogRecord}
use Rattle.cany_check.specs.Accounts.Account.{logs_of_node}
use Rattle.cany_check.specs.Accounts.AccountFields.{log_parts}
use Rattle.cany_check.proofs.Accounts.LogRecordFacts.{one_node_more}
use Rattle.cany_check.proofs.account.log_records.records_of_logs.Goals as goal

pub loop-number-preserved : goal.loop-number-preserved
loop-number-preserved c =
    let scenario : ScenarioParts = c.args.world.now.scenario in
    let logs : List LogRecord = c.loop-number.logs.items in
    let own : List LogRecord = c.in_ok-of_node.of_node.items in
    let more : c.extend_from_slice.new.self.items ≡ logs ++ own =
    c.in_ok-extend_from_slice.ensures.items ∙ ap (λ (l : List LogRecord). logs ++ l) c.as_slice.ensures.value in
    ap (map log_parts) more
    ∙ one_node_more (logs_of_node scenario (run scenario c.args.world.now.journal)) c.loop-number.number c.of_index.result logs own c.loop-number.invariant
    c.in_ok-of_node.ensures (c.of_index.ensures ∙ c.from.ensures)
