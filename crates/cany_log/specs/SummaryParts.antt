-- A summary in three parts, of which the first is a line.
use Rattle.std.specs.Prelude.{ℕ, List, [], ◌∷◌, ◌++◌, codes}
use Rattle.cany_base.specs.Scenario.{ScenarioParts}
use Rattle.cany_log.specs.Summary.{all_entries, entries_line, frames_line, settled_line}
use Rattle.cany_model.specs.Bus.State.{RunState}
use Rattle.cany_model.specs.Promises.Hypothesis.{first_break}
use Rattle.cany_text.specs.ReportLines.{hypothesis_line, line_of}

-- how many there are of each kind
unfoldable pub counts_text : ScenarioParts → RunState → List ℕ
counts_text scenario s = frames_line s.trace ++ (entries_line (all_entries scenario s) ++ settled_line scenario s)

-- whether the run is within the fault hypothesis, and the end
unfoldable pub ending_text : ScenarioParts → RunState → List ℕ
ending_text scenario s = hypothesis_line (first_break scenario.params s.trace) ++ line_of (codes "end" ∷ [])
