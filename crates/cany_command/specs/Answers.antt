-- What a command writes for a text, by what it writes of a run.
use Rattle.std.specs.Prelude.{ℕ, List, Option, Ok, Err, IsOkAnd}
use Rattle.std.specs.Option.{option_map_or}
use Rattle.cany_base.specs.Scenario.{ScenarioParts}
use Rattle.cany_command.specs.Due.{RunText}
use Rattle.cany_command.specs.Promises.{KeepsPromises}
use Rattle.cany_command.specs.Refused.{Chosen, own_fault}
use Rattle.cany_io.specs.Sink.{Takes}
use Rattle.cany_model.specs.Runs.Follow.{journal_of}
use Rattle.cany_text.specs.RefusalLines.{journal_refusal_line, scenario_refusal_line}
use Rattle.cany_text.specs.ScenarioText.{scenario_of}
use Rattle.cany_text.specs.TomlKeys.{Read}

-- what it writes for a scenario: of the run by the scenario's own journal or, where it has none, by
-- its round robin journal; or the line that refuses the journal
abbrev pub answer_for : RunText → ScenarioParts → List ℕ
answer_for text scenario = option_map_or journal_refusal_line (own_fault scenario) (text scenario (journal_of scenario))

abbrev pub answer_if : RunText → Chosen → List ℕ
answer_if text (Err line) = line
answer_if text (Ok scenario) = answer_for text scenario

abbrev pub answer_to : RunText → (ScenarioParts → Chosen) → Read ScenarioParts → List ℕ
answer_to text choose (Err fault) = scenario_refusal_line fault
answer_to text choose (Ok scenario) = answer_if text (choose scenario)

-- what it writes for the bytes of a text
unfoldable pub answer_by : RunText → (ScenarioParts → Chosen) → List ℕ → List ℕ
answer_by text choose bytes = answer_to text choose (scenario_of bytes)

-- the bytes are a scenario, one is run for it, and of that one the fact holds
abbrev pub OfChosen : (ScenarioParts → Chosen) → List ℕ → (ScenarioParts → Type 0) → Type 0
OfChosen choose bytes Fact = IsOkAnd (scenario_of bytes) (λ scenario. IsOkAnd (choose scenario) Fact)

-- what success says of the scenario that was run and of what the sink had taken before and has
-- taken now
pub record IsAnswered (text : RunText) (scenario : ScenarioParts) (old new : Option (List ℕ)) : Type 0 where
  -- all that the command writes of the run was written
  pub written : Takes old (text scenario (journal_of scenario)) new
  pub promises : KeepsPromises scenario
