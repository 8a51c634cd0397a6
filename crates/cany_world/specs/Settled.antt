-- What is asked about a message of a run.
use Rattle.std.specs.Prelude.{◌≡◌, ℕ, ◌&&◌, ◌||◌, Bool, true, not, List, Contains}
use Rattle.std.specs.List.{list_any}
use Rattle.cany_base.specs.declared.message.MsgKey.{MsgKey}
use Rattle.cany_base.specs.declared.message.Service.{Service}
use Rattle.cany_base.specs.declared.message.Service.TheVariants as service
use Rattle.cany_base.specs.declared.step.Step.{Step}
use Rattle.cany_base.specs.Nodes.{Nodes, those_where}
use Rattle.cany_base.specs.Scenario.{ScenarioParts}
use Rattle.cany_model.specs.Bus.Frames.{Identity}
use Rattle.cany_model.specs.Bus.History.{history}
use Rattle.cany_model.specs.Runs.Run.{run}
use Rattle.cany_model.specs.Bus.State.{RunState, node_at, runs}
use Rattle.cany_model.specs.Bus.Waiting.{waits}
use Rattle.cany_model.specs.Promises.Settled.{came_too_late, is_settled, origin_has_asked}
use Rattle.cany_model.specs.Rules.Messages.{Message, message_key, messages_of}
use Rattle.cany_model.specs.Rules.Turn.{is_ahead_at, scenario_at}
use Rattle.can_controller.specs.Controller.{ControllerState}
use Rattle.cany_world.specs.Incarnations.{IncarnationsParts}
use Rattle.cany_world.specs.Kept.{AreControllersOf, AreNodesOf}

-- the controllers and the nodes are those of a run, and the key names this message of its scenario
pub record IsAbout (scenario : ScenarioParts) (journal : List Step) (m : Message) (name : MsgKey) (row : List ControllerState) (kept : List IncarnationsParts) : Type 0 where
  pub controllers : AreControllersOf scenario (run scenario journal) row
  pub nodes : AreNodesOf scenario (run scenario journal) kept
  pub stands : Contains (messages_of scenario.sends) m
  pub key : message_key m ≡ name

-- whether the origin has asked for the message, has stopped, or came too late for it
abbrev pub is_asked : ScenarioParts → RunState → Message → Bool
is_asked scenario s m = origin_has_asked scenario s m || not (runs (node_at s.nodes m.origin)) || came_too_late s m

-- whether node i runs and has something of the message ahead
abbrev pub has_ahead : ScenarioParts → RunState → Message → ℕ → Bool
has_ahead scenario s m i = runs (node_at s.nodes i) && is_ahead_at (scenario_at scenario s i) m i (history i s)

-- ---- why a message is not settled

-- whether the message is to be asked for yet: its origin runs, takes part since the scripted slot,
-- and has not asked for it
abbrev pub is_queued : ScenarioParts → RunState → Message → Bool
is_queued scenario s m = not (is_asked scenario s m)

-- whether node i runs and waits with one of these frames
abbrev pub is_waiting : List Identity → RunState → ℕ → Bool
is_waiting frames s i = runs (node_at s.nodes i) && list_any (λ x. waits x (node_at s.nodes i).waiting) frames

-- the nodes that do
unfoldable pub waiting_nodes : List Identity → RunState → Nodes
waiting_nodes frames s = those_where (is_waiting frames s)

-- the nodes that run and have something of the message ahead
unfoldable pub nodes_ahead : ScenarioParts → RunState → Message → Nodes
nodes_ahead scenario s m = those_where (has_ahead scenario s m)

-- ---- of which services nothing more is to come

pub record FinishedParts : Type 0 where
  pub ed : Bool
  pub rel : Bool
  pub tot : Bool

abbrev pub is_finished : FinishedParts → Service → Bool
is_finished f service.Ed = f.ed
is_finished f service.Rel = f.rel
is_finished f service.Tot = f.tot

-- a message of such a service is settled as soon as its origin has asked for it, has stopped, or
-- came too late for it
abbrev pub IsFinished : ScenarioParts → RunState → FinishedParts → Type 0
IsFinished scenario s finished =
    (m : Message) → Contains (messages_of scenario.sends) m → is_finished finished m.service ≡ true → is_settled scenario s m ≡ is_asked scenario s m
