-- What success says of a run.
use Rattle.std.proofs.Common.{ℕ, List, Option, Some, None, Ok, Err, IsOkAnd}
use Rattle.std.specs.Prelude.{IfSome}
use Rattle.cany_base.specs.Scenario.{ScenarioParts}
use Rattle.cany_command.specs.Answers.{IsAnswered}
use Rattle.cany_model.specs.Runs.Follow.{journal_of}
use Rattle.cany_model.specs.Runs.Run.{run}
use Rattle.cany_text.specs.ScenarioText.{scenario_of}
use Rattle.cany_text.specs.TomlKeys.{Read}
use Rattle.cany_replica.specs.ReplicaText.{replica_text}
use Rattle.cany_replica.specs.Top.{IsReplica}
use Rattle.cany_replica.proofs.AgreementFacts.{one_table}

pub told : (scenario : ScenarioParts) (old new : Option (List ℕ)) → IsAnswered replica_text scenario old new → IsReplica scenario old new
told scenario old new h = record {
  written = h.written;
  promises = h.promises;
  tables = λ within. one_table scenario (run scenario (journal_of scenario)) (h.promises.safe within);
}

told_of : (read : Read ScenarioParts) (old new : Option (List ℕ)) → IsOkAnd read (λ scenario. IsAnswered replica_text scenario old new)
    → IsOkAnd read (λ scenario. IsReplica scenario old new)
told_of (Ok scenario) old new h = told scenario old new h
told_of (Err fault) old new h = h

-- of all bytes that the source had
pub told_if : (left : Option (List ℕ)) (old new : Option (List ℕ))
    → IfSome left (λ bytes. IsOkAnd (scenario_of bytes) (λ scenario. IsAnswered replica_text scenario old new))
    → IfSome left (λ bytes. IsOkAnd (scenario_of bytes) (λ scenario. IsReplica scenario old new))
told_if None old new h = h
told_if (Some bytes) old new h = told_of (scenario_of bytes) old new h
