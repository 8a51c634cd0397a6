-- What the command writes, and which scenario it takes.
use Rattle.std.proofs.Common.{◌≡◌, ◌⊎◌, ℕ, ◌<◌, ◌≤◌, List, [], ◌∷◌, ◌++◌, map, Some, Ok, Err, refl, ap, sym, ◌∙◌, inl, inr, arith}
use Rattle.std.specs.List.{flat_map}
use Rattle.std.specs.Option.{option_map_or}
use Rattle.std.proofs.lemmas.Bool.{le-ltb, lt-ltb}
use Rattle.cany_base.specs.declared.actions.Action.{Action}
use Rattle.cany_base.specs.declared.actions.Action.TheVariants.{Enter}
use Rattle.cany_base.specs.declared.log_entry.LogEntry.{LogEntry}
use Rattle.cany_base.specs.declared.step.Step.{Step}
use Rattle.cany_base.specs.Scenario.{ScenarioParts}
use Rattle.cany_command.specs.declared.status.TheConstants.{NO_MEMORY, REFUSED, WRITE_FAULT}
use Rattle.cany_model.specs.Runs.Run.{run}
use Rattle.cany_text.specs.ReportLines.{entry_line}
use Rattle.cany_watch.specs.Lines.{line}
use Rattle.cany_watch.specs.Top.{choose, text, with_node}
use Rattle.cany_watch.specs.WatchText.{first_line, last_line, no_node_line, node_line, read_text, watch_text}
use Rattle.cany_watch.specs.WatchWords.{watched_node}

read_entries : (entries : List LogEntry) → flat_map read_text (map Enter entries) ≡ flat_map entry_line entries
read_entries [] = refl
read_entries (e ∷ entries) = ap (λ l. entry_line e ++ l) (read_entries entries)

-- the text of the line that was read
pub text_read : (words : List (List ℕ)) (node : ℕ) (scenario : ScenarioParts) (journal : List Step) (reads : List Action) → watched_node words ≡ Some node
    → reads ≡ map Enter (line scenario (run scenario journal) node)
    → first_line ++ node_line node ++ flat_map read_text reads ++ last_line ≡ text words scenario journal
unfolding watch_text
text_read words node scenario journal reads named read =
    ap (λ l. first_line ++ node_line node ++ l ++ last_line) (ap (flat_map read_text) read ∙ read_entries (line scenario (run scenario journal) node))
    ∙ sym (ap (λ o. option_map_or (λ n. watch_text n scenario journal) o []) named)

-- a scenario that has the node is run
pub has_node : (words : List (List ℕ)) (node : ℕ) (scenario : ScenarioParts) → node < scenario.params.nodes → watched_node words ≡ Some node → choose words scenario ≡ Ok scenario
has_node words node scenario below named = ap (λ o. with_node o scenario) named ∙ rw (lt-ltb node scenario.params.nodes below) refl

-- and one that does not is refused
pub lacks_node : (words : List (List ℕ)) (node : ℕ) (scenario : ScenarioParts) → scenario.params.nodes ≤ node → watched_node words ≡ Some node → choose words scenario ≡ Err (no_node_line node)
lacks_node words node scenario past named = ap (λ o. with_node o scenario) named ∙ rw (le-ltb node scenario.params.nodes past) refl

-- a status that says that writing failed, or that memory was wanting, is none of a refusal
pub not_refused : (status : ℕ) → (status ≡ WRITE_FAULT) ⊎ (status ≡ NO_MEMORY) → status ≡ REFUSED → ⊥
not_refused status (inl failed) refused = omega (arith, failed, refused)
not_refused status (inr memory) refused = omega (arith, memory, refused)
