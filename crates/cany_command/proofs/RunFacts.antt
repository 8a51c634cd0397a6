-- What the run of a world keeps, by the laws and by what the world says of it.
use Rattle.std.proofs.Common.{◌≡◌, ◌↔◌, List, Option, Some, None, option_and_then, unwrap_or, subst}
use Rattle.cany_base.specs.declared.step.Step.{Step}
use Rattle.cany_base.specs.Scenario.{ScenarioParts}
use Rattle.cany_model.specs.Runs.Follow.{journal_fault, journal_of}
use Rattle.cany_model.specs.Runs.RoundRobin.{round_robin}
use Rattle.cany_model.specs.Runs.Run.{IsLegal, IsWhole}
use Rattle.cany_model.specs.Promises.Hypothesis.{IsWithin}
use Rattle.cany_model.specs.Promises.Safe.{IsIntegral, IsSafe}
use Rattle.cany_command.specs.Promises.{KeepsPromises}
use Rattle.cany_command.specs.Refused.{own_fault}
use Rattle.cany_world.specs.World.{WorldParts, state_of}

abbrev AreLegalAndWhole : ScenarioParts → List Step → Type 0
AreLegalAndWhole scenario journal = IsLegal scenario journal × IsWhole scenario journal

-- the journal of a run that ended
ends : ((scenario : ScenarioParts) → AreLegalAndWhole scenario (round_robin scenario))
    → ((scenario : ScenarioParts) (journal : List Step) → (journal_fault scenario journal ≡ None) ↔ AreLegalAndWhole scenario journal)
    → (scenario : ScenarioParts) (o : Option (List Step)) → option_and_then (journal_fault scenario) o ≡ None → AreLegalAndWhole scenario (unwrap_or o (round_robin scenario))
ends whole exact scenario None h = whole scenario
ends whole exact scenario (Some journal) h = (exact scenario journal).0 h

pub kept_promises : ((scenario : ScenarioParts) → AreLegalAndWhole scenario (round_robin scenario))
    → ((scenario : ScenarioParts) (journal : List Step) → (journal_fault scenario journal ≡ None) ↔ AreLegalAndWhole scenario journal)
    → (scenario : ScenarioParts) (world : WorldParts) → own_fault scenario ≡ None → world ≡ record { scenario = scenario; journal = journal_of scenario }
    → IsIntegral world.scenario (state_of world) → (IsWithin world.scenario.params (state_of world).trace → IsSafe world.scenario (state_of world))
    → KeepsPromises scenario
kept_promises whole exact scenario world followed is integrity safe =
    let Safe : WorldParts → Type 0 = λ w. IsWithin w.scenario.params (state_of w).trace → IsSafe w.scenario (state_of w) in
    let journal = ends whole exact scenario scenario.journal followed in
    record {
      legal = journal.0;
      whole = journal.1;
      integrity = subst (λ (w : WorldParts). IsIntegral w.scenario (state_of w)) is integrity;
      safe = subst Safe is safe;
    }
