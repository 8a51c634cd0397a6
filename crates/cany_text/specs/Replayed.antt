-- A report that is made again: its journal is given to the scenario for its own.
use Rattle.std.specs.Prelude.{◌≡◌, List, Option, Some, None}
use Rattle.cany_base.specs.declared.step.Step.{Step}
use Rattle.cany_base.specs.Scenario.{IsLegalScenario, ScenarioParts}
use Rattle.cany_model.specs.Runs.Follow.{journal_fault, journal_of}
use Rattle.cany_text.specs.Report.{report}

-- the scenario with this journal, or with none, in place of what it has
abbrev pub with_journal : Option (List Step) → ScenarioParts → ScenarioParts
with_journal given scenario = record scenario { journal = given }

-- the scenario that follows this journal
abbrev pub following : List Step → ScenarioParts → ScenarioParts
following journal scenario = with_journal (Some journal) scenario

-- The scenario that follows the journal is a legal one, takes that very journal, finds no fault in
-- it, and has by it the report that the scenario has.
pub record GivesReportAgain (scenario : ScenarioParts) (journal : List Step) : Type 0 where
  pub legal : IsLegalScenario (following journal scenario)
  pub taken : journal_of (following journal scenario) ≡ journal
  pub faultless : journal_fault (following journal scenario) journal ≡ None
  pub same : report (following journal scenario) journal ≡ report scenario journal
