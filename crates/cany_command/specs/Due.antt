-- What is due: the one thing that a call has to do for its words and for the bytes of its source.
-- It is done unless a stream fails or there is no memory.
use Rattle.std.specs.Prelude.{ℕ, nat_lt, if◌then◌else◌, List, length, Ok, Err}
use Rattle.std.specs.Option.{option_map_or}
use Rattle.cany_base.specs.declared.step.Step.{Step}
use Rattle.cany_base.specs.Limits.{most_text_bytes}
use Rattle.cany_base.specs.Scenario.{ScenarioParts}
use Rattle.cany_text.specs.RefusalLines.{journal_refusal_line, scenario_refusal_line}
use Rattle.cany_text.specs.ScenarioText.{scenario_of}
use Rattle.cany_text.specs.TomlKeys.{Read}
use Rattle.cany_command.specs.Refused.{Chosen, own_fault}

-- what a command writes of the run of a scenario by a journal
abbrev pub RunText : Type 0
RunText = ScenarioParts → List Step → List ℕ

-- what is due for words of the command's form
pub data Due : Type 0 where
  -- the words are refused by this line, before the source is read
  WordsRefused : List ℕ → Due
  -- the source has more bytes than a text can have
  TooLong : Due
  -- the text, the scenario or the journal is refused by this line
  TextRefused : List ℕ → Due
  -- this scenario is run, and the command's text of that run is written
  Success : ScenarioParts → Due

-- for a scenario that is to be run: its own journal may be refused
abbrev pub due_of_run : ScenarioParts → Due
due_of_run scenario = option_map_or (λ fault. TextRefused (journal_refusal_line fault)) (own_fault scenario) (Success scenario)

-- for what the command chose: it may refuse the scenario
abbrev pub due_of_choice : Chosen → Due
due_of_choice (Err line) = TextRefused line
due_of_choice (Ok scenario) = due_of_run scenario

-- for what was read: the bytes may stand for no scenario
abbrev pub due_of_read : (ScenarioParts → Chosen) → Read ScenarioParts → Due
due_of_read choose (Err fault) = TextRefused (scenario_refusal_line fault)
due_of_read choose (Ok scenario) = due_of_choice (choose scenario)

-- for the bytes: they may be too many
abbrev pub due_of_bytes : (ScenarioParts → Chosen) → List ℕ → Due
due_of_bytes choose bytes = if nat_lt most_text_bytes (length bytes) then TooLong else due_of_read choose (scenario_of bytes)

-- the fact holds of the scenario that is run, where one is
abbrev pub IfSuccess : Due → (ScenarioParts → Type 0) → Type 0
IfSuccess (WordsRefused line) Fact = Unit {0}
IfSuccess TooLong Fact = Unit {0}
IfSuccess (TextRefused line) Fact = Unit {0}
IfSuccess (Success scenario) Fact = Fact scenario
