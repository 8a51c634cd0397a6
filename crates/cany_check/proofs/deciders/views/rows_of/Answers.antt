use Rattle.std.proofs.Common.{Vec, Global, List, Option, ◌++◌, map, sym, subst, take}
use Rattle.std.specs.List.{flat_map}
use Rattle.std.proofs.lemmas.List.{take_all}
use Rattle.cany_check.specs.declared.deciders.findings.ViewParting.{ViewParting}
use Rattle.cany_check.specs.declared.account.record.LogRecord.{LogRecord}
use Rattle.cany_check.specs.Accounts.Account.{running}
use Rattle.cany_check.specs.Accounts.AccountFields.{log_parts}
use Rattle.cany_check.specs.Deciding.ViewRows.{HasRows, views_in}
use Rattle.cany_check.proofs.Deciding.ViewRowFacts.{of_log_that_runs, of_log_that_stopped}
use Rattle.cany_check.proofs.deciders.views.rows_of.Goals as goal
use Rattle.cany_check.proofs.deciders.views.rows_of.Goals.{then-logs-i+in_ok-put_log, else-logs-i}

pub loop-i-preserved : goal.loop-i-preserved
loop-i-preserved c =
    let logs = c.args.logs.now in
    let i = c.loop-i.i in
    let d = c.index-logs-i.result in
    elim c.if-logs-i.branch [
      | then-logs-i+in_ok-put_log w ↦
          let x = w.index-logs-i-then-logs-i.result in
          subst (λ l. HasRows l c.if-logs-i.rows.items) (sym (of_log_that_runs logs i d c.loop-i-test.true x w.if-logs-i.true w.index-logs-i-then-logs-i.is))
          (subst (λ (v : Vec (Option ViewParting) Global). HasRows (flat_map views_in (running (map log_parts (take i logs))) ++ views_in (log_parts x)) v.items) (sym w.rows-is)
          (w.in_ok-put_log.ensures (flat_map views_in (running (map log_parts (take i logs)))) c.loop-i.invariant))
      | else-logs-i w ↦
          subst (λ l. HasRows l c.if-logs-i.rows.items) (sym (of_log_that_stopped logs i d c.loop-i-test.true w.if-logs-i.false))
          (subst (λ (v : Vec (Option ViewParting) Global). HasRows (flat_map views_in (running (map log_parts (take i logs)))) v.items) (sym w.rows-is) c.loop-i.invariant)
    ]

pub returns : goal.returns
returns c =
    subst (λ (l : List LogRecord). HasRows (flat_map views_in (running (map log_parts l))) c.loop-i.rows.items) (take_all c.loop-i.i c.args.logs.now c.loop-i-test.false)
    c.loop-i.invariant
