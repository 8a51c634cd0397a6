use Rattle.std.proofs.Common.{◌≡◌, ◌+◌, ◌∙◌, ◌++◌, Vec, Global, List, [], ◌∷◌, ap, arith, map, not}
use Rattle.std.specs.Prelude.{if◌then◌else◌}
use Rattle.std.specs.List.{range_with_len}
use Rattle.cany_base.specs.Scenario.{ScenarioParts}
use Rattle.cany_model.specs.Bus.State.{node_at}
use Rattle.cany_model.specs.Runs.Run.{run}
use Rattle.cany_check.specs.declared.account.record.LogRecord.{LogRecord}
use Rattle.cany_check.specs.Accounts.Account.{log_record}
use Rattle.cany_check.specs.Accounts.AccountFields.{log_parts}
use Rattle.cany_check.proofs.Accounts.LogRecordFacts.{one_more}
use Rattle.cany_check.proofs.account.log_records.records_of_node.Goals as goal
use Rattle.cany_check.proofs.account.log_records.records_of_node.Goals.{else-loop-inc-test, then-loop-inc-test+else-is_err+else-inc-inc-end}

pub loop-inc-preserved : goal.loop-inc-preserved
loop-inc-preserved c =
    let scenario : ScenarioParts = c.args.world.now.scenario in
    let logs : List LogRecord = c.loop-inc.logs.items in
    let x : LogRecord = c.log_record.result in
    let pushed : c.push.new.self.items ≡ logs ++ x ∷ [] =
    c.push.ensures.items ∙ ap (λ b. if b then logs ++ x ∷ [] else logs) (c.is_err.ensures.negation ∙ ap not c.if-is_err.false) in
    ap (map log_parts) pushed
    ∙ one_more (log_record scenario (run scenario c.args.world.now.journal) c.args.node) c.loop-inc.inc logs x c.loop-inc.invariant c.log_record.ensures

pub returns : goal.returns
returns c =
    let scenario : ScenarioParts = c.args.world.now.scenario in
    let s = run scenario c.args.world.now.journal in
    let f = log_record scenario s c.args.node in
    let logs : List LogRecord = c.loop-inc.logs.items in
    elim c.loop-inc-test.branch [
      | else-loop-inc-test w ↦ absurd (omega arith)
      | then-loop-inc-test+else-is_err+else-inc-inc-end w ↦
          let x : LogRecord = w.log_record.result in
          let pushed : w.push.new.self.items ≡ logs ++ x ∷ [] =
          w.push.ensures.items ∙ ap (λ b. if b then logs ++ x ∷ [] else logs) (w.is_err.ensures.negation ∙ ap not w.if-is_err.false) in
          let last : c.loop-inc.inc ≡ (node_at s.nodes c.args.node).present.number = omega (arith, c.incarnation-inc-end.ensures) in
          ap (λ (v : Vec LogRecord Global). map log_parts v.items) w.logs-is
          ∙ ap (map log_parts) pushed ∙ one_more f c.loop-inc.inc logs x c.loop-inc.invariant w.log_record.ensures
          ∙ ap (λ n. map f (range_with_len 0 (n + 1))) last
    ]
