-- A report in three parts.
use Rattle.std.specs.Prelude.{ℕ, List, [], ◌∷◌, ◌++◌, codes}
use Rattle.std.specs.List.{concat, flat_map, range_with_len}
use Rattle.cany_base.specs.declared.step.Step.{Step}
use Rattle.cany_base.specs.Scenario.{ScenarioParts}
use Rattle.cany_model.specs.Promises.Hypothesis.{first_break}
use Rattle.cany_text.specs.Report.{bus_lines, node_lines, message_lines}
use Rattle.cany_text.specs.ReportLines.{line_of, first_line, params_line, journal_lines, hypothesis_line}
use Rattle.cany_model.specs.Bus.State.{RunState}

-- what was run
unfoldable pub heading_text : ScenarioParts → List Step → List ℕ
heading_text scenario journal = first_line scenario.params.format ++ (params_line scenario.params ++ concat (journal_lines journal))

-- what happened on the bus
unfoldable pub bus_text : ScenarioParts → RunState → List ℕ
bus_text scenario s = concat (bus_lines s) ++ hypothesis_line (first_break scenario.params s.trace)

-- what the nodes and the messages came to
unfoldable pub nodes_and_messages_text : ScenarioParts → RunState → List ℕ
nodes_and_messages_text scenario s =
    concat (flat_map (node_lines scenario s) (range_with_len 0 scenario.params.nodes))
    ++ (concat (message_lines scenario s) ++ line_of (codes "end" ∷ []))
