-- When the controllers, the nodes and the bus of a world are those of a state of a run.
use Rattle.std.specs.Prelude.{◌≡◌, ℕ, ◌+◌, ◌-◌, ◌<◌, List, [], length, map, reverse, take, drop, count_by, slice_get, Some, None}
use Rattle.std.specs.List.{AllByRecursion}
use Rattle.cany_base.specs.declared.actions.Action.{Action}
use Rattle.cany_base.specs.declared.notice.Notice.{Notice}
use Rattle.cany_base.specs.declared.notice.NoticeKind.{NoticeKind}
use Rattle.cany_base.specs.declared.rule.Rule.{Rule}
use Rattle.cany_base.specs.declared.slot_note.SlotNote.{SlotNote}
use Rattle.cany_base.specs.declared.step.Step.{Step}
use Rattle.cany_base.specs.Bounded.{Bounded}
use Rattle.cany_base.specs.Scenario.{ScenarioParts, IsLegalScenario, is_ask_of_node}
use Rattle.cany_model.specs.declared.span.Span.{Span}
use Rattle.cany_model.specs.Bus.History.{ended_history, given, seen}
use Rattle.cany_model.specs.Runs.Incarnations.{span_from}
use Rattle.cany_model.specs.Rules.Log.{log_from}
use Rattle.cany_model.specs.Rules.Notices.{error_as_idle}
use Rattle.cany_model.specs.Rules.Rooms.{waiting_room, actions_room}
use Rattle.cany_model.specs.declared.reply.StepReply.TheVariants.{Done}
use Rattle.cany_model.specs.Runs.Run.{run, slot_reply}
use Rattle.cany_model.specs.Bus.State.{EndedIncarnation, NodeState, RunState, node_at}
use Rattle.cany_model.specs.Rules.Turn.{scenario_for}
use Rattle.can_bus.specs.Bus.{BusParts, Follows}
use Rattle.can_controller.specs.Controller.{ControllerState}
use Rattle.cany_node.specs.Node.{NodeParts, IsNodeOf, IsWaiting}
use Rattle.cany_world.specs.Incarnations.{IncarnationsParts}
use Rattle.cany_world.specs.Places.{AreOfNodes}

-- the notice of a slot for node i
abbrev pub notice_in : ℕ → SlotNote → Notice
notice_in i note = record { slot = note.slot; kind = given i note }

-- the notices of the newest slots for node i, oldest first
unfoldable pub newest_notices : ℕ → ℕ → List SlotNote → List Notice
newest_notices i count trace = reverse (map (notice_in i) (take count trace))

-- The controller of node i, where the run has this trace and this state of the node. A controller
-- that has stopped gets no more notices, but what it had before is there.
pub record IsKeptAs (scenario : ScenarioParts) (trace : List SlotNote) (i : ℕ) (node : NodeState) (c : ControllerState) : Type 0 where
  pub number : c.node ≡ i
  pub params : c.params ≡ scenario.params
  pub room : c.room ≡ waiting_room scenario
  pub waiting : c.waiting ≡ node.waiting
  pub transmit : c.transmit ≡ node.transmit
  pub receive : c.receive ≡ node.receive
  pub stopped : c.stopped ≡ node.stopped
  pub read : c.read ≡ length trace - node.unread
  pub unread : c.unread ≡ take (length c.unread) (newest_notices i node.unread trace)
  pub all : c.stopped ≡ None → length c.unread ≡ node.unread

-- what the present incarnation of node i has read: the history of a run, from its trace and its
-- state of the node
abbrev pub past_of : ℕ → List SlotNote → NodeState → List NoticeKind
past_of i trace node = map (given i) (drop node.unread (seen node.present trace))

-- what it has heard of that: an error is heard as an idle slot
abbrev pub heard_of : ℕ → List SlotNote → NodeState → List NoticeKind
heard_of i trace node = map error_as_idle (past_of i trace node)

-- the present incarnation stands for what it has heard, and hears vectors from its first membership
-- cycle on
pub record IsPresentAt (scenario : ScenarioParts) (trace : List SlotNote) (i : ℕ) (node : NodeState) (v : IncarnationsParts) : Type 0 where
  pub it : NodeParts
  pub at : slice_get v.nodes v.present ≡ Some it
  pub number : it.node ≡ i
  pub inc : it.inc ≡ node.present.number
  pub cycle : 0 < node.present.number → it.cycle ≡ node.present.cycle
  pub stands : IsNodeOf (scenario_for scenario node.present) (heard_of i trace node) it
  pub span : Span
  pub span_at : slice_get v.spans v.present ≡ Some span
  pub since : span.since ≡ node.present.since

-- one that has ended keeps its log, its span, and since when it took part
pub record IsEndedAt (scenario : ScenarioParts) (trace : List SlotNote) (i : ℕ) (v : IncarnationsParts) (e : EndedIncarnation) : Type 0 where
  pub it : NodeParts
  pub at : slice_get v.nodes e.incarnation.number ≡ Some it
  pub from : it.from ≡ (scenario_for scenario e.incarnation).from
  pub log : it.log ≡ log_from (scenario_for scenario e.incarnation) i (ended_history i trace e)
  pub span : slice_get v.spans e.incarnation.number ≡ Some (span_from e)

-- one that has not begun, of this number, waits for a restart
pub record IsWaitingAt (scenario : ScenarioParts) (i : ℕ) (v : IncarnationsParts) (number : ℕ) : Type 0 where
  pub it : NodeParts
  pub at : slice_get v.nodes number ≡ Some it
  pub node : it.node ≡ i
  pub inc : it.inc ≡ number
  pub waits : IsWaiting scenario it
  pub span : Span
  pub span_at : slice_get v.spans number ≡ Some span
  pub unset : span.since ≡ 0

-- The incarnations of node i, where the run has this trace and this state of the node: one for the
-- opening, and one for each restart entry of the node.
pub record IsKeptAt (scenario : ScenarioParts) (trace : List SlotNote) (i : ℕ) (node : NodeState) (v : IncarnationsParts) : Type 0 where
  pub whole : length v.nodes ≡ count_by (is_ask_of_node i) scenario.restarts + 1
  pub spans : length v.spans ≡ length v.nodes
  pub number : v.present ≡ node.present.number
  pub present : IsPresentAt scenario trace i node v
  pub ended : AllByRecursion (IsEndedAt scenario trace i v) node.ended
  pub waiting : (number : ℕ) → v.present < number → number < length v.nodes → IsWaitingAt scenario i v number

abbrev pub AreControllersOf : ScenarioParts → RunState → List ControllerState → Type 0
AreControllersOf scenario s controllers = AreOfNodes (λ i c. IsKeptAs scenario s.trace i (node_at s.nodes i) c) scenario.params.nodes controllers

abbrev pub AreNodesOf : ScenarioParts → RunState → List IncarnationsParts → Type 0
AreNodesOf scenario s nodes = AreOfNodes (λ i v. IsKeptAt scenario s.trace i (node_at s.nodes i) v) scenario.params.nodes nodes

-- the bus ran the slots of the run
pub record IsBusOf (scenario : ScenarioParts) (s : RunState) (bus : BusParts) : Type 0 where
  pub params : bus.params ≡ scenario.params
  pub trace : bus.trace ≡ s.trace
  pub follows : Follows scenario.rules bus

-- bus, controllers and nodes are those of a state of a run
pub record StandFor (scenario : ScenarioParts) (s : RunState) (b : BusParts) (row : List ControllerState) (kept : List IncarnationsParts) : Type 0 where
  pub bus : IsBusOf scenario s b
  pub controllers : AreControllersOf scenario s row
  pub nodes : AreNodesOf scenario s kept

-- a slot can be asked for: some journal leads to the state that they stand for
pub record CanRunSlot (scenario : ScenarioParts) (script : List Rule) (b : BusParts) (row : List ControllerState) (kept : List IncarnationsParts) : Type 0 where
  pub legal : IsLegalScenario scenario
  pub rules : script ≡ scenario.rules
  pub journal : List Step
  pub stands : StandFor scenario (run scenario journal) b row kept

-- the next slot can run: it can be asked for, and is not refused
pub record CanRunNextSlot (scenario : ScenarioParts) (script : List Rule) (b : BusParts) (row : List ControllerState) (kept : List IncarnationsParts) : Type 0 where
  pub asked : CanRunSlot scenario script b row kept
  pub done : slot_reply scenario (run scenario asked.journal) ≡ Done

-- a step can be asked for: some journal leads to the state that they stand for
pub record CanStep (scenario : ScenarioParts) (script : List Rule) (bus : BusParts) (controllers : List ControllerState) (nodes : List IncarnationsParts) (actions : Bounded Action) : Type 0 where
  pub legal : IsLegalScenario scenario
  pub opening : scenario.inc ≡ 0
  pub rules : script ≡ scenario.rules
  pub journal : List Step
  pub stands : StandFor scenario (run scenario journal) bus controllers nodes
  pub free : actions ≡ record { items = []; room = actions_room scenario }
