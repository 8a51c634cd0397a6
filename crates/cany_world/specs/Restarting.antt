-- What the restarts at the end of a slot ask for, and what they make of a controller and its node.
use Rattle.std.specs.Prelude.{◌≡◌, ℕ, ◌<◌, ◌&&◌, Bool, not, is_none, List, MatchBool}
use Rattle.cany_base.specs.declared.message.NodeAsk.{NodeAsk}
use Rattle.cany_base.specs.declared.step.Step.{Step}
use Rattle.cany_base.specs.Scenario.{ScenarioParts, IsLegalScenario}
use Rattle.cany_model.specs.Bus.Restart.{names_restart}
use Rattle.cany_model.specs.Runs.Run.{run}
use Rattle.cany_model.specs.Bus.Slot.{after_slot, script}
use Rattle.cany_model.specs.Bus.State.{slots_run}
use Rattle.can_controller.specs.Controller.{ControllerState, HasStoppedBy, restarted_at}
use Rattle.cany_world.specs.Incarnations.{IncarnationsParts, CanRestart, IsRestarted}
use Rattle.cany_world.specs.Kept.{AreControllersOf, AreNodesOf}

-- whether node i starts again at the end of the slot: its controller has stopped, and an entry
-- names it
abbrev pub starts : List NodeAsk → ℕ → ℕ → ControllerState → Bool
starts restarts slot i c = not (is_none c.stopped) && names_restart restarts slot i

-- controller and node can start again
pub record MayStart (slot : ℕ) (c : ControllerState) (v : IncarnationsParts) : Type 0 where
  pub controller : HasStoppedBy slot c
  pub node : CanRestart slot v

-- both have started again, or both are as they were
abbrev pub IsAfterEntries : Bool → ℕ → ControllerState → ControllerState → IncarnationsParts → IncarnationsParts → Type 0
IsAfterEntries begins slot c c' v v' = MatchBool begins ((c' ≡ restarted_at slot c) × IsRestarted slot c.stopped c.read v v') ((c' ≡ c) × (v' ≡ v))

-- the restarts can be made: some journal leads to a state, and its slot to the one that the
-- controllers and the nodes stand for
pub record CanRestartAll (restarts : List NodeAsk) (slot : ℕ) (row : List ControllerState) (kept : List IncarnationsParts) : Type 0 where
  pub scenario : ScenarioParts
  pub legal : IsLegalScenario scenario
  pub same : restarts ≡ scenario.restarts
  pub journal : List Step
  pub now : slot ≡ slots_run (run scenario journal)
  pub within : slot < scenario.params.slots
  pub controllers : AreControllersOf scenario (after_slot (script scenario.rules) (run scenario journal)) row
  pub nodes : AreNodesOf scenario (after_slot (script scenario.rules) (run scenario journal)) kept
