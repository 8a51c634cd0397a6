-- How the run of a crew came out, for a caller that has the world back whatever it came to.
use Rattle.std.specs.Prelude.{◌≡◌, ℕ, ◌<◌, List, Option, Result, IfOk, IfErr, IfNone, IfSome}
use Rattle.cany_base.specs.declared.memory.Memory.{Memory}
use Rattle.cany_model.specs.Runs.Run.{IsLegal, IsWhole}
use Rattle.cany_world.specs.World.{WorldParts}
use Rattle.cany_crew.specs.Gates.{IsOutcome, NoneFell}

-- the run of the scenario, with the node and the slot of a pass that was refused; where none was it
-- has ended, and where there was no memory the world is as before
pub record IsEnding (old new : List ℕ) (last : List (Option ℕ)) (before after : WorldParts) (ending : Result (Option (ℕ × ℕ)) Memory) : Type 0 where
  pub scenario : after.scenario ≡ before.scenario
  pub ended : IfOk ending (λ held. IfNone held (IsLegal after.scenario after.journal × IsWhole after.scenario after.journal))
  pub node : IfOk ending (λ held. IfSome held (λ found. found.0 < before.scenario.params.nodes))
  pub outcome : IfOk ending (λ held. IsOutcome old new last held)
  pub fell : NoneFell old new
  pub memory : IfErr ending (λ _. after ≡ before)
