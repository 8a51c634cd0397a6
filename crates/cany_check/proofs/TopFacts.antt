-- What the status of a verdict says of a run.
use Rattle.std.proofs.Common.{◌≡◌, ℕ, Bool, true, false, Option, Some, None, List, Ok, Err, ap, sym, ◌∙◌, refl, inl, inr}
use Rattle.std.specs.Prelude.{IfSome, IsOkAnd, if◌then◌else◌, nat_le}
use Rattle.std.specs.List.{list_any}
use Rattle.std.proofs.lemmas.Bool.{and_parts}
use Rattle.cany_base.specs.declared.step.Step.{Step}
use Rattle.cany_base.specs.Scenario.{ScenarioParts}
use Rattle.cany_base.proofs.ParamsFacts.{few_nodes}
use Rattle.cany_command.specs.Answers.{IsAnswered}
use Rattle.cany_model.specs.declared.breaks.Break.{Break}
use Rattle.cany_model.specs.Bus.State.{slots_run}
use Rattle.cany_model.specs.Promises.Hypothesis.{first_break}
use Rattle.cany_model.specs.Runs.Follow.{journal_of}
use Rattle.cany_model.specs.Runs.Run.{all_read, run}
use Rattle.cany_check.specs.declared.unused_entries.unused_entry.Unused.{Unused}
use Rattle.cany_check.specs.Accounts.Account.{AccountParts, account_of}
use Rattle.cany_check.specs.Texts.CheckText.{check_text, verdict_text}
use Rattle.cany_check.specs.Top.{IsCheck, IsVerdict, check_status}
use Rattle.cany_check.specs.Idle.Unused.{unused}
use Rattle.cany_check.specs.Deciding.Verdict.{is_broken_judgement, is_open_judgement, judgement, parts, status}
use Rattle.cany_check.proofs.Deciding.StatusOfRun.{nine_where, ten_where}
use Rattle.cany_text.specs.ScenarioText.{scenario_of}
use Rattle.cany_text.specs.TomlKeys.{Read}
use Rattle.cany_text.proofs.ScenarioTextLegal.{scenario_of-legal}

-- ---- the text and the status

pub text_made : (scenario : ScenarioParts) (journal : List Step) (a : AccountParts) (found : Option Break) (idle : List Unused)
    → a ≡ account_of scenario (run scenario journal) → found ≡ first_break scenario.params (run scenario journal).trace → idle ≡ unused scenario (run scenario journal)
    → verdict_text a found idle ≡ check_text scenario journal
unfolding check_text
text_made scenario journal a found idle x y z = rw (x, y, z) refl

pub status_made : (scenario : ScenarioParts) (journal : List Step) (a : AccountParts) → a ≡ account_of scenario (run scenario journal)
    → status a ≡ check_status scenario journal
unfolding check_status
status_made scenario journal a is = ap status is

pub is_verdict : (a : AccountParts) → IsVerdict (status a)
unfolding status
is_verdict a = by_tests (list_any (λ part. is_broken_judgement (judgement a part)) parts) (list_any (λ part. is_open_judgement (judgement a part)) parts)
  where
    by_tests : (broken opened : Bool) → IsVerdict (if broken then 9 else if opened then 10 else 0)
    by_tests true opened = inr (inl refl)
    by_tests false true = inr (inr refl)
    by_tests false false = inl refl

-- ---- what success says

told : (bytes : List ℕ) (scenario : ScenarioParts) → scenario_of bytes ≡ Ok scenario → (given : ℕ) (old new : Option (List ℕ))
    → IsAnswered check_text scenario old new → given ≡ check_status scenario (journal_of scenario) → IsCheck scenario given old new
unfolding check_status
told bytes scenario is given old new h verdict =
    let journal = journal_of scenario in
    let few = few_nodes scenario.params (scenario_of-legal bytes scenario is).in_range in
    let read = (and_parts (nat_le scenario.params.slots (slots_run (run scenario journal))) (all_read (run scenario journal)) h.promises.whole).1 in
    let nine = nine_where scenario journal few read in
    let ten = ten_where scenario journal few read in
    record {
      written = h.written;
      promises = h.promises;
      verdict = verdict;
      broken = (λ is. nine.0 (sym verdict ∙ is), λ kept. verdict ∙ nine.1 kept);
      unsettled = (λ is. ten.0 (sym verdict ∙ is), λ left. verdict ∙ ten.1 left);
    }

told_of : (bytes : List ℕ) (read : Read ScenarioParts) → scenario_of bytes ≡ read → (given : ℕ) (old new : Option (List ℕ))
    → IsOkAnd read (λ scenario. IsAnswered check_text scenario old new) → IsOkAnd read (λ scenario. given ≡ check_status scenario (journal_of scenario))
    → IsOkAnd read (λ scenario. IsCheck scenario given old new)
told_of bytes (Ok scenario) is given old new h verdict = told bytes scenario is given old new h verdict
told_of bytes (Err fault) is given old new h verdict = h

-- of all bytes that the source had
pub told_if : (left : Option (List ℕ)) (given : ℕ) (old new : Option (List ℕ))
    → IfSome left (λ bytes. IsOkAnd (scenario_of bytes) (λ scenario. IsAnswered check_text scenario old new))
    → IfSome left (λ bytes. IsOkAnd (scenario_of bytes) (λ scenario. given ≡ check_status scenario (journal_of scenario)))
    → IfSome left (λ bytes. IsOkAnd (scenario_of bytes) (λ scenario. IsCheck scenario given old new))
told_if None given old new h verdict = h
told_if (Some bytes) given old new h verdict = told_of bytes (scenario_of bytes) refl given old new h verdict
