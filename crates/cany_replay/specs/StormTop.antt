-- The command `storm`: what it writes, and what its success says.
use Rattle.std.specs.Prelude.{ℕ, List, Option}
use Rattle.cany_io.specs.Sink.{Takes}
use Rattle.cany_log.specs.Summary.{summary}
use Rattle.cany_model.specs.Runs.RoundRobin.{round_robin}
use Rattle.cany_replay.specs.Storm.{storm_scenario}
use Rattle.cany_command.specs.Promises.{KeepsPromises}

-- the summary of the storm's run by round robin
unfoldable pub storm_summary : ℕ → List ℕ
storm_summary number = summary number (storm_scenario number) (round_robin (storm_scenario number))

-- what success says of the number and of what the sink had taken before and has taken now
pub record IsStorm (number : ℕ) (old new : Option (List ℕ)) : Type 0 where
  -- the summary of the run was written
  pub written : Takes old (storm_summary number) new
  pub promises : KeepsPromises (storm_scenario number)
