-- What a contract sees of a world: the scenario, and the steps that were made, which fix everything
-- else.
use Rattle.std.specs.Prelude.{List}
use Rattle.cany_base.specs.declared.step.Step.{Step}
use Rattle.cany_base.specs.Scenario.{ScenarioParts}
use Rattle.cany_model.specs.Runs.Run.{run}
use Rattle.cany_model.specs.Bus.State.{RunState}

pub record WorldParts : Type 0 where
  pub scenario : ScenarioParts
  pub journal : List Step

-- the run of its scenario by its journal
abbrev pub state_of : WorldParts → RunState
state_of world = run world.scenario world.journal
