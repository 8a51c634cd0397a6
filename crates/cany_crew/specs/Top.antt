-- The command `run`: its words, what it writes, and what its success says.
use Rattle.std.specs.Prelude.{◌≡◌, ◌⊎◌, ℕ, List, [], ◌∷◌, Option, Some, None, option_map, MatchOption, Ok, Err, IsOkAnd, codes}
use Rattle.cany_base.specs.declared.step.Step.{Step}
use Rattle.cany_base.specs.Scenario.{ScenarioParts}
use Rattle.cany_crew.specs.declared.status.TheConstants.{HELD}
use Rattle.cany_io.specs.Sink.{Takes, TakesPrefix}
use Rattle.cany_text.specs.RefusalLines.{journal_given_line, scenario_refusal_line}
use Rattle.cany_text.specs.Report.{report}
use Rattle.cany_text.specs.ScenarioText.{scenario_of}
use Rattle.cany_text.specs.TomlKeys.{Read}
use Rattle.cany_command.specs.Promises.{PromisesHold}
use Rattle.cany_command.specs.Status as all

-- the words are the one word of the command
abbrev pub AreRun : List (List ℕ) → Type 0
AreRun words = words ≡ codes "run" ∷ []

-- ---- what is refused

abbrev pub run_refusal_for : Read ScenarioParts → Option (List ℕ)
run_refusal_for (Err fault) = Some (scenario_refusal_line fault)
run_refusal_for (Ok scenario) = option_map (λ journal. journal_given_line) scenario.journal

-- the line of the refusal, where the bytes are no scenario, for their first fault, or where the
-- scenario brings a journal
unfoldable pub run_refusal : List ℕ → Option (List ℕ)
run_refusal bytes = run_refusal_for (scenario_of bytes)

-- ---- what is written

-- what success says of the scenario and of what the sink had taken before and has taken now: the
-- report of the run by some journal was written, which prints that journal
pub record IsCrewRun (scenario : ScenarioParts) (old new : Option (List ℕ)) : Type 0 where
  -- the scenario has no journal of its own
  pub none : scenario.journal ≡ None
  pub journal : List Step
  pub promises : PromisesHold scenario journal
  pub written : Takes old (report scenario journal) new

-- the sink took the start of the report of a run that has ended
abbrev pub TakesReportStart : ScenarioParts → Option (List ℕ) → Option (List ℕ) → Type 0
TakesReportStart scenario old new = (journal : List Step) × PromisesHold scenario journal × TakesPrefix old (report scenario journal) new

-- a text that may be written: the line of the refusal, or the report of a run that has ended
abbrev pub IsReportOf : ScenarioParts → List ℕ → Type 0
IsReportOf scenario text = (journal : List Step) × PromisesHold scenario journal × (text ≡ report scenario journal)

abbrev pub IsAnswer : List ℕ → List ℕ → Type 0
IsAnswer bytes text = MatchOption (run_refusal bytes) (IsOkAnd (scenario_of bytes) (λ scenario. IsReportOf scenario text)) (λ line. text ≡ line)

-- the sink took the start of such a text
abbrev pub TakesStart : List ℕ → Option (List ℕ) → Option (List ℕ) → Type 0
TakesStart bytes old new = (text : List ℕ) × IsAnswer bytes text × TakesPrefix old text new

-- ---- statuses

-- nothing was written
abbrev pub HasNoAnswer : ℕ → Type 0
HasNoAnswer status = all.HasNoAnswer status ⊎ (status ≡ HELD)
