use Rattle.std.proofs.Common.{Vec, Global, ◌≡◌, ◌+◌, List, [], ◌∷◌, ◌++◌, map, take, ap, sym, ◌∙◌}
use Rattle.std.proofs.lemmas.List.{append-nil, map-append, take_all, take_more}
use Rattle.std.specs.Prelude.{filter, filter_map}
use Rattle.std.specs.List.{cons_option}
use Rattle.cany_check.specs.declared.deciders.findings.Accusation.{Accusation}
use Rattle.cany_check.specs.declared.account.record.LogRecord.{LogRecord}
use Rattle.cany_check.specs.Accounts.Account.{LogParts, running}
use Rattle.cany_check.specs.Accounts.AccountFields.{log_parts}
use Rattle.cany_check.specs.Deciding.Accuracy.{accusation_of}
use Rattle.cany_check.specs.Accounts.Words.{takes_part}
use Rattle.cany_check.proofs.Deciding.AccuracyFacts.{found_more}
use Rattle.cany_check.proofs.deciders.accuracy.accusations_by.Goals as goal
use Rattle.cany_check.proofs.deciders.accuracy.accusations_by.Goals.{in-Some+in_ok-push-in-Some, in-None}

pub loop-i-preserved : goal.loop-i-preserved
loop-i-preserved c =
    let a = c.args.account.now in
    let logs : List LogRecord = c.logs-logs.result.now in
    let x : LogRecord = c.index-logs-i.result in
    let more : take (c.loop-i.i + 1) logs ≡ take c.loop-i.i logs ++ x ∷ [] =
    take_more logs c.loop-i.i x c.loop-i-test.true ∙ ap (λ (y : LogRecord). take c.loop-i.i logs ++ y ∷ []) (sym c.index-logs-i.is) in
    let all : map log_parts (take (c.loop-i.i + 1) logs) ≡ map log_parts (take c.loop-i.i logs) ++ log_parts x ∷ [] =
    ap (map log_parts) more ∙ map-append log_parts (take c.loop-i.i logs) (x ∷ []) in
    let found : c.match-judged_accusation.found.items ≡ c.loop-i.found.items ++ cons_option c.judged_accusation.result [] =
    elim c.match-judged_accusation.branch [
      | in-Some+in_ok-push-in-Some w ↦
          ap (λ (v : Vec Accusation Global). v.items) w.found-is ∙ w.in_ok-push-in-Some.ensures.items
          ∙ ap (λ o. c.loop-i.found.items ++ cons_option o []) (sym w.in-Some.is)
      | in-None w ↦
          ap (λ (v : Vec Accusation Global). v.items) w.found-is ∙ sym (append-nil c.loop-i.found.items) ∙ ap (λ o. c.loop-i.found.items ++ cons_option o []) (sym w.in-None.is)
    ] in
    found_more a (map log_parts (take c.loop-i.i logs)) (log_parts x) c.loop-i.found.items c.match-judged_accusation.found.items c.judged_accusation.result
    c.loop-i.invariant (c.judged_accusation.ensures a c.requires) found
    ∙ ap (λ (l : List LogParts). filter_map (accusation_of a) (filter (takes_part 0) (running l))) (sym all)

pub returns : goal.returns
returns c =
    let a = c.args.account.now in
    let of_logs = λ (l : List LogParts). filter_map (accusation_of a) (filter (takes_part 0) (running l)) in
    c.loop-i.invariant ∙ ap (λ (l : List LogRecord). of_logs (map log_parts l)) (take_all c.loop-i.i c.logs-logs.result.now c.loop-i-test.false) ∙ ap of_logs c.logs-logs.ensures.logs
