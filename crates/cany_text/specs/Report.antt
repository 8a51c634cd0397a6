-- The report of a run: its lines in their order.
use Rattle.std.specs.Prelude.{ℕ, suc, List, [], ◌∷◌, ◌++◌, map, filter, reverse, codes}
use Rattle.std.specs.List.{concat, flat_map, range_with_len}
use Rattle.std.specs.Option.{option_map_or}
use Rattle.cany_base.specs.declared.step.Step.{Step}
use Rattle.cany_base.specs.Scenario.{ScenarioParts}
use Rattle.cany_model.specs.Promises.Hypothesis.{first_break}
use Rattle.cany_model.specs.Rules.Messages.{messages_of}
use Rattle.cany_text.specs.ReportLines.{line_of, first_line, params_line, journal_lines, bus_line, is_shown, hypothesis_line, node_line, entry_line, message_line}
use Rattle.cany_model.specs.Runs.Incarnations.{log_of, span_of}
use Rattle.cany_model.specs.Bus.Restart.{restarted_in}
use Rattle.cany_model.specs.Runs.Run.{run}
use Rattle.cany_model.specs.Promises.Settled.{is_settled}
use Rattle.cany_model.specs.Bus.State.{RunState, node_at}

-- the slots that carried a frame or in which a node stopped or started again, oldest first
unfoldable pub bus_lines : RunState → List (List ℕ)
bus_lines s =
    map (λ note. bus_line note (restarted_in s note.slot)) (filter (λ note. is_shown note (restarted_in s note.slot)) (reverse s.trace))

-- an incarnation of a node and its log
unfoldable pub incarnation_lines : ScenarioParts → RunState → ℕ → ℕ → List (List ℕ)
incarnation_lines scenario s i inc =
    option_map_or (λ span. node_line i inc span ∷ []) (span_of s i inc) [] ++ map entry_line (log_of scenario s i inc)

-- a node: its incarnations, the first one first
unfoldable pub node_lines : ScenarioParts → RunState → ℕ → List (List ℕ)
node_lines scenario s i = flat_map (incarnation_lines scenario s i) (range_with_len 0 (suc (node_at s.nodes i).present.number))

-- the messages in file order
unfoldable pub message_lines : ScenarioParts → RunState → List (List ℕ)
message_lines scenario s = map (λ m. message_line m (is_settled scenario s m)) (messages_of scenario.sends)

unfoldable pub report_lines : ScenarioParts → List Step → RunState → List (List ℕ)
report_lines scenario journal s =
    first_line scenario.params.format
    ∷ params_line scenario.params
    ∷ journal_lines journal
    ++ bus_lines s
    ++ hypothesis_line (first_break scenario.params s.trace) ∷ []
    ++ flat_map (node_lines scenario s) (range_with_len 0 scenario.params.nodes)
    ++ message_lines scenario s
    ++ line_of (codes "end" ∷ []) ∷ []

-- the bytes of the report
unfoldable pub report : ScenarioParts → List Step → List ℕ
report scenario journal = concat (report_lines scenario journal (run scenario journal))
