-- The controllers on the bus, one of each node, and what a slot does to them.
use Rattle.std.specs.Prelude.{◌≡◌, ℕ, ◌≤◌, if◌then◌else◌, is_none, List, length, map, Some, None, slice_get, option_map}
use Rattle.cany_base.specs.declared.slot_note.SlotNote.{SlotNote}
use Rattle.cany_base.specs.Nodes.{has}
use Rattle.cany_base.specs.Params.{Parameters}
use Rattle.cany_model.specs.Bus.Slot.{node_after, share_of}
use Rattle.cany_model.specs.Bus.State.{NodeState, node_at}
use Rattle.can_controller.specs.Controller.{ControllerState, node_state, seen, stopped_at}

-- the nodes of the controllers, as a run has them
abbrev pub nodes_of : List ControllerState → List NodeState
nodes_of controllers = map node_state controllers

-- the controller was built for this node of a bus with these parameters
pub record IsControllerOf (p : Parameters) (i : ℕ) (c : ControllerState) : Type 0 where
  pub node : c.node ≡ i
  pub params : c.params ≡ p

-- one controller of each node, in the order of the nodes
pub record AreControllersFor (p : Parameters) (controllers : List ControllerState) : Type 0 where
  pub whole : length controllers ≡ p.nodes
  pub each : (i : ℕ) (c : ControllerState) → slice_get controllers i ≡ Some c → IsControllerOf p i c

-- no running controller has more unread notices than this
abbrev pub NoneLags : ℕ → List ControllerState → Type 0
NoneLags lag controllers =
    (i : ℕ) (c : ControllerState) → slice_get controllers i ≡ Some c → c.stopped ≡ None → length c.unread ≤ lag

-- each running controller has room for one notice more
abbrev pub HaveRoom : List ControllerState → Type 0
HaveRoom controllers =
    (i : ℕ) (c : ControllerState) → slice_get controllers i ≡ Some c → c.stopped ≡ None → length c.unread ≤ c.params.lag

-- the controller of node i after a slot: one that runs sees its share, and then stops where the
-- note has it; one that has stopped stays as it is
unfoldable pub controller_after : ℕ → SlotNote → ControllerState → ControllerState
controller_after i note c =
    if is_none c.stopped then (if has note.stops i then stopped_at note.slot (seen note.slot (share_of i note) c) else seen note.slot (share_of i note) c)
    else c

-- the controllers after a slot: each is changed by its place, and one that ran is now the node
-- after the slot
pub record AreAfter (note : SlotNote) (old new : List ControllerState) : Type 0 where
  pub whole : length new ≡ length old
  pub each : (i : ℕ) → slice_get new i ≡ option_map (controller_after i note) (slice_get old i)
  pub node : (i : ℕ) (c : ControllerState) → slice_get old i ≡ Some c → c.stopped ≡ None → node_state (controller_after i note c) ≡ node_after i note (node_state c)

-- the nodes are the same but for their unread notices and their incarnations
pub record IsSameBut (a b : NodeState) : Type 0 where
  pub waiting : a.waiting ≡ b.waiting
  pub transmit : a.transmit ≡ b.transmit
  pub receive : a.receive ≡ b.receive
  pub stopped : a.stopped ≡ b.stopped

-- the controllers are these nodes but for the unread notices, of which a stopped node of a run has
-- more and more, and for the incarnations, of which a controller knows nothing
pub record StandFor (controllers : List ControllerState) (nodes : List NodeState) : Type 0 where
  pub whole : length nodes ≡ length controllers
  pub each : (i : ℕ) (c : ControllerState) → slice_get controllers i ≡ Some c → IsSameBut (node_state c) (node_at nodes i)
