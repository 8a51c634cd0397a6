-- What is refused, and by which line. A command says which scenario it runs in place of the one
-- that was read, or by which line of its own it refuses that; what the text or the journal is
-- refused for is the same for every command.
use Rattle.std.specs.Prelude.{ℕ, List, Option, Some, option_map, option_and_then, Result, Ok, Err}
use Rattle.cany_base.specs.Scenario.{ScenarioParts}
use Rattle.cany_model.specs.declared.follow.FollowFault.{FollowFault}
use Rattle.cany_model.specs.Runs.Follow.{journal_fault}
use Rattle.cany_text.specs.RefusalLines.{journal_refusal_line, scenario_refusal_line}
use Rattle.cany_text.specs.ScenarioText.{scenario_of}
use Rattle.cany_text.specs.TomlKeys.{Read}

-- what keeps the scenario's own journal, where it has one, from being legal and whole
abbrev pub own_fault : ScenarioParts → Option FollowFault
own_fault scenario = option_and_then (journal_fault scenario) scenario.journal

-- the scenario that a command runs, or the line by which it refuses the one that was read
abbrev pub Chosen : Type 0
Chosen = Result ScenarioParts (List ℕ)

-- the choice of a command that runs what it reads
abbrev pub as_read : ScenarioParts → Chosen
as_read scenario = Ok scenario

abbrev pub chosen_refusal : Chosen → Option (List ℕ)
chosen_refusal (Err line) = Some line
chosen_refusal (Ok scenario) = option_map journal_refusal_line (own_fault scenario)

abbrev pub refusal_for : (ScenarioParts → Chosen) → Read ScenarioParts → Option (List ℕ)
refusal_for choose (Err fault) = Some (scenario_refusal_line fault)
refusal_for choose (Ok scenario) = chosen_refusal (choose scenario)

-- the line of the refusal, where the bytes are no scenario, for their first fault; or the command's
-- own; or where the journal of the scenario that it runs is refused
unfoldable pub refusal_by : (ScenarioParts → Chosen) → List ℕ → Option (List ℕ)
refusal_by choose bytes = refusal_for choose (scenario_of bytes)
