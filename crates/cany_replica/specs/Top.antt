-- The command `replica`: its parts, and what its success says.
use Rattle.std.specs.Prelude.{ℕ, List, Option, codes}
use Rattle.cany_base.specs.Scenario.{ScenarioParts}
use Rattle.cany_command.specs.Performed.{CommandParts, one_word}
use Rattle.cany_command.specs.Promises.{KeepsPromises}
use Rattle.cany_io.specs.Sink.{Takes}
use Rattle.cany_model.specs.Promises.Hypothesis.{IsWithin}
use Rattle.cany_model.specs.Runs.Follow.{journal_of}
use Rattle.cany_model.specs.Runs.Run.{run}
use Rattle.cany_replica.specs.Agreement.{HasOneTable}
use Rattle.cany_replica.specs.ReplicaText.{replica_text}

-- the one word, and the replies and tables of the nodes
abbrev pub replica_command : CommandParts
replica_command = one_word (codes "replica") replica_text

-- what success says of the scenario and of what the sink had taken before and has taken now
pub record IsReplica (scenario : ScenarioParts) (old new : Option (List ℕ)) : Type 0 where
  -- the replies and the tables of the nodes were written: of each those that its messages make, as
  -- it delivered them by TOTCAN
  pub written : Takes old (replica_text scenario (journal_of scenario)) new
  pub promises : KeepsPromises scenario
  -- within the fault hypothesis the nodes have one table
  pub tables : IsWithin scenario.params (run scenario (journal_of scenario)).trace → HasOneTable scenario (run scenario (journal_of scenario))
