use Rattle.std.proofs.Common.{◌≡◌, ℕ, ◌+◌, ◌<◌, ◌∙◌, List, ◌∷◌, ap, arith, drop, get_or, length, map, sym}
use Rattle.std.proofs.lemmas.List.{drop_all, drop_more}
use Rattle.cany_check.specs.declared.account.record.LogRecord.{LogRecord}
use Rattle.cany_check.specs.Accounts.Account.{AccountParts, running}
use Rattle.cany_check.specs.Accounts.AccountFields.{log_parts}
use Rattle.cany_check.specs.Deciding.Integrity.{first_wrong_of}
use Rattle.cany_check.proofs.Deciding.MarkFacts.{found_first, found_later, none_found}
use Rattle.cany_check.proofs.deciders.integrity.first_wrong_of.Goals as goal

-- what is left begins with the log at a place
rest_is : (logs : List LogRecord) (i : ℕ) (x : LogRecord) → i < length logs → x ≡ get_or logs i x
    → map log_parts (drop i logs) ≡ log_parts x ∷ map log_parts (drop (i + 1) logs)
rest_is logs i x below is = ap (map log_parts) (drop_more logs i x below) ∙ ap (λ (y : LogRecord). log_parts y ∷ map log_parts (drop (i + 1) logs)) (sym is)

pub returns-then-is_some : goal.returns-then-is_some
returns-then-is_some c =
    let a : AccountParts = c.args.account.now in
    let logs : List LogRecord = c.logs-logs.result.now in
    let x : LogRecord = c.index-logs-i.result in
    sym (found_first a (log_parts x) (map log_parts (drop (c.loop-i.i + 1) logs)) c.wrong_in-found.result c.wrong_in-found.ensures.entry
    (sym c.is_some.ensures ∙ c.if-is_some.true))
    ∙ ap (λ l. first_wrong_of a (running l)) (sym (rest_is logs c.loop-i.i x c.loop-i-test.true c.index-logs-i.is))
    ∙ c.loop-i.invariant.0

pub loop-i-preserved : goal.loop-i-preserved
loop-i-preserved c =
    let a : AccountParts = c.args.account.now in
    let logs : List LogRecord = c.logs-logs.result.now in
    let x : LogRecord = c.index-logs-i.result in
    let none = sym c.is_some.ensures ∙ c.if-is_some.false in (
      sym (found_later a (log_parts x) (map log_parts (drop (c.loop-i.i + 1) logs)) c.wrong_in-found.result c.wrong_in-found.ensures.entry none)
          ∙ ap (λ l. first_wrong_of a (running l)) (sym (rest_is logs c.loop-i.i x c.loop-i-test.true c.index-logs-i.is))
          ∙ c.loop-i.invariant.0,
      c.wrong_in-found.ensures.marks (none_found c.wrong_in-found.result none),
    )

pub returns : goal.returns
unfolding first_wrong_of
returns c =
    let a : AccountParts = c.args.account.now in
    let logs : List LogRecord = c.logs-logs.result.now in
    ap (λ (l : List LogRecord). first_wrong_of a (running (map log_parts l))) (sym (drop_all c.loop-i.i logs (omega arith))) ∙ c.loop-i.invariant.0
