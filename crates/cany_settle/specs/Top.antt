-- The command `tail`: its parts, and what its success says.
use Rattle.std.specs.Prelude.{◌≡◌, ℕ, List, Option, codes}
use Rattle.cany_base.specs.Scenario.{ScenarioParts}
use Rattle.cany_command.specs.Performed.{CommandParts, one_word}
use Rattle.cany_command.specs.Promises.{KeepsPromises}
use Rattle.cany_io.specs.Sink.{Takes}
use Rattle.cany_log.specs.Summary.{open_count}
use Rattle.cany_model.specs.Promises.Hypothesis.{IsWithin}
use Rattle.cany_model.specs.Runs.Follow.{journal_of}
use Rattle.cany_model.specs.Runs.Run.{run}
use Rattle.cany_settle.specs.LongEnough.{IsLongEnough}
use Rattle.cany_settle.specs.TailText.{tail_text}

-- the one word, and whether the run was long enough
abbrev pub tail_command : CommandParts
tail_command = one_word (codes "tail") tail_text

-- what success says of the scenario and of what the sink had taken before and has taken now
pub record IsTail (scenario : ScenarioParts) (old new : Option (List ℕ)) : Type 0 where
  pub written : Takes old (tail_text scenario (journal_of scenario)) new
  pub promises : KeepsPromises scenario
  -- a run within the fault hypothesis that was long enough has no message left open
  pub settled : IsWithin scenario.params (run scenario (journal_of scenario)).trace → IsLongEnough scenario (run scenario (journal_of scenario))
      → open_count scenario (run scenario (journal_of scenario)) ≡ 0
