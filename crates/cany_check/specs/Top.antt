-- The command `check`: its parts, its statuses, and what they say.
use Rattle.std.specs.Prelude.{◌≡◌, ◌⊎◌, ◌↔◌, ℕ, List, Option, None, codes}
use Rattle.cany_base.specs.declared.step.Step.{Step}
use Rattle.cany_base.specs.Scenario.{ScenarioParts}
use Rattle.cany_command.specs.declared.status.TheConstants.{DONE}
use Rattle.cany_command.specs.Performed.{AreOnly, CommandParts}
use Rattle.cany_command.specs.Promises.{KeepsPromises}
use Rattle.cany_command.specs.Refused.{as_read}
use Rattle.cany_io.specs.Sink.{Takes}
use Rattle.cany_model.specs.Runs.Follow.{journal_of}
use Rattle.cany_model.specs.Runs.Run.{run}
use Rattle.cany_check.specs.declared.status.TheConstants.{BROKEN, OPEN}
use Rattle.cany_check.specs.Accounts.Account.{account_of}
use Rattle.cany_check.specs.Texts.CheckText.{check_text}
use Rattle.cany_check.specs.Promise.{IsOpen, KeepsPromise}
use Rattle.cany_check.specs.Deciding.Verdict.{status}

-- the statuses of success
abbrev pub IsVerdict : ℕ → Type 0
IsVerdict given = (given ≡ DONE) ⊎ (given ≡ BROKEN) ⊎ (given ≡ OPEN)

-- the status for the run of a scenario by a journal
unfoldable pub check_status : ScenarioParts → List Step → ℕ
check_status scenario journal = status (account_of scenario (run scenario journal))

-- the command: the one word, the verdict on the run, and its status
abbrev pub check_command : CommandParts
check_command = record {
  are_words = AreOnly (codes "check");
  words_refusal = λ _. None;
  choose = λ _. as_read;
  text = λ _. check_text;
  success = λ _. check_status;
  is_success = IsVerdict;
}

-- what a status of success says of the scenario and of what the sink had taken before and has taken
-- now
pub record IsCheck (scenario : ScenarioParts) (given : ℕ) (old new : Option (List ℕ)) : Type 0 where
  pub written : Takes old (check_text scenario (journal_of scenario)) new
  pub promises : KeepsPromises scenario
  pub verdict : given ≡ check_status scenario (journal_of scenario)
  -- something of the promise is broken
  pub broken : (given ≡ BROKEN) ↔ (KeepsPromise scenario (run scenario (journal_of scenario)) → ⊥)
  -- nothing is, and more may come of a message or of a sign
  pub unsettled : (given ≡ OPEN) ↔ (KeepsPromise scenario (run scenario (journal_of scenario)) × IsOpen scenario (run scenario (journal_of scenario)))
