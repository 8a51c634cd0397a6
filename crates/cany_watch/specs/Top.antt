-- The command `watch`: its words, what it refuses, and what it writes.
use Rattle.std.specs.Prelude.{◌≡◌, ℕ, nat_lt, if◌then◌else◌, List, [], Option, Some, None, Ok, Err, IsSome}
use Rattle.std.specs.Option.{option_map_or}
use Rattle.cany_base.specs.declared.step.Step.{Step}
use Rattle.cany_base.specs.Scenario.{ScenarioParts}
use Rattle.cany_command.specs.declared.status.TheConstants.{DONE}
use Rattle.cany_command.specs.Performed.{CommandParts}
use Rattle.cany_command.specs.Refused.{Chosen}
use Rattle.cany_watch.specs.WatchText.{no_node_line, watch_text}
use Rattle.cany_watch.specs.WatchWords.{watched_node}

-- the words name a node
abbrev pub AreWatch : List (List ℕ) → Type 0
AreWatch words = IsSome (watched_node words)

-- the scenario that was read, if it has the node
abbrev pub with_node : Option ℕ → ScenarioParts → Chosen
with_node None scenario = Ok scenario
with_node (Some node) scenario = if nat_lt node scenario.params.nodes then Ok scenario else Err (no_node_line node)

abbrev pub choose : List (List ℕ) → ScenarioParts → Chosen
choose words = with_node (watched_node words)

-- the line of the node of the run of a scenario by a journal
abbrev pub text : List (List ℕ) → ScenarioParts → List Step → List ℕ
text words scenario journal = option_map_or (λ node. watch_text node scenario journal) (watched_node words) []

-- the command
abbrev pub watch_command : CommandParts
watch_command = record {
  are_words = AreWatch;
  words_refusal = λ _. None;
  choose = choose;
  text = text;
  success = λ _ _ _. DONE;
  is_success = λ status. status ≡ DONE;
}
