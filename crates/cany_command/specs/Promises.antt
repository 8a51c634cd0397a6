-- What is promised of the run of a scenario.
use Rattle.std.specs.Prelude.{◌≡◌, List}
use Rattle.cany_base.specs.declared.step.Step.{Step}
use Rattle.cany_base.specs.Scenario.{ScenarioParts}
use Rattle.cany_model.specs.Runs.Follow.{journal_of}
use Rattle.cany_model.specs.Promises.Hypothesis.{IsWithin}
use Rattle.cany_model.specs.Runs.Run.{IsLegal, IsWhole, run}
use Rattle.cany_model.specs.Promises.Safe.{IsIntegral, IsSafe}
use Rattle.cany_world.specs.World.{WorldParts}

-- what is promised of the run of the scenario by a journal
pub record PromisesHold (scenario : ScenarioParts) (journal : List Step) : Type 0 where
  -- each step of the journal could be done, and at its end all slots ran and nothing is left unread
  pub legal : IsLegal scenario journal
  pub whole : IsWhole scenario journal
  -- in every run, no message twice or unsent
  pub integrity : IsIntegral scenario (run scenario journal)
  -- what a run within the fault hypothesis keeps
  pub safe : IsWithin scenario.params (run scenario journal).trace → IsSafe scenario (run scenario journal)

-- and of that by its own journal or by its round robin journal
abbrev pub KeepsPromises : ScenarioParts → Type 0
KeepsPromises scenario = PromisesHold scenario (journal_of scenario)

-- the world has run its scenario to the end, by that journal
pub record HasRun (world : WorldParts) : Type 0 where
  pub journal : world.journal ≡ journal_of world.scenario
  pub promises : PromisesHold world.scenario world.journal
