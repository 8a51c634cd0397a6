-- The text of the command: the tail, the last event and the length of a run, and whether it was
-- long enough; how many messages are settled, and whether the run is within the fault hypothesis.
use Rattle.std.specs.Prelude.{ℕ, Bool, true, false, nat_le, if◌then◌else◌, List, [], ◌∷◌, ◌++◌, codes, decimal}
use Rattle.std.specs.List.{concat}
use Rattle.cany_base.specs.declared.message.NodeAsk.{NodeAsk}
use Rattle.cany_base.specs.declared.step.Step.{Step}
use Rattle.cany_base.specs.Scenario.{ScenarioParts}
use Rattle.cany_log.specs.Summary.{settled_line}
use Rattle.cany_model.specs.Bus.State.{RunState}
use Rattle.cany_model.specs.Promises.Hypothesis.{first_break}
use Rattle.cany_model.specs.Runs.Run.{run}
use Rattle.cany_settle.specs.LastEvent.{last_event}
use Rattle.cany_settle.specs.LongEnough.{needed, tail}
use Rattle.cany_text.specs.ReportLines.{hypothesis_line, line_of}

-- a word and a number
unfoldable pub number_line : List ℕ → ℕ → List ℕ
number_line word number = line_of (word ∷ decimal number ∷ [])

unfoldable pub word_line : List ℕ → List ℕ
word_line word = line_of (word ∷ [])

abbrev is_any : List NodeAsk → Bool
is_any [] = false
is_any (ask ∷ asks) = true

-- that the run was long enough, or how many slots it would have to have
unfoldable pub enough_line : ScenarioParts → RunState → List ℕ
enough_line scenario s =
    if nat_le (needed scenario s) scenario.params.slots then word_line (codes "enough") else number_line (codes "short") (needed scenario s)

-- of a scenario with restarts nothing is claimed
unfoldable pub claim_line : ScenarioParts → RunState → List ℕ
claim_line scenario s = if is_any scenario.restarts then word_line (codes "unclaimed") else enough_line scenario s

-- how long it has to go on, when the last event was, and how long it was
unfoldable pub lengths_lines : ScenarioParts → RunState → List (List ℕ)
lengths_lines scenario s =
    number_line (codes "tail") (tail scenario.params) ∷ number_line (codes "last") (last_event scenario s)
    ∷ number_line (codes "slots") scenario.params.slots ∷ []

-- what became of the messages and of the fault hypothesis
unfoldable pub ending_lines : ScenarioParts → RunState → List (List ℕ)
ending_lines scenario s =
    settled_line scenario s ∷ hypothesis_line (first_break scenario.params s.trace) ∷ word_line (codes "end") ∷ []

unfoldable pub tail_lines : ScenarioParts → RunState → List (List ℕ)
tail_lines scenario s = lengths_lines scenario s ++ claim_line scenario s ∷ ending_lines scenario s

-- the bytes of the text
unfoldable pub tail_text : ScenarioParts → List Step → List ℕ
tail_text scenario journal = concat (tail_lines scenario (run scenario journal))
