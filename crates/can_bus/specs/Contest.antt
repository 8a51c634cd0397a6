-- What arbitration gives, in the words of a run.
use Rattle.std.specs.Prelude.{◌≡◌, ℕ, ◌<◌, ◌⊎◌, if◌then◌else◌, is_none, IfSome, List, All, slice_get}
use Rattle.cany_base.specs.declared.format.Format.{Format}
use Rattle.cany_base.specs.declared.slot_note.SlotNote.{SlotNote}
use Rattle.cany_base.specs.Frame.{FrameParts, key_of}
use Rattle.cany_base.specs.Nodes.{Nodes, has, those_where}
use Rattle.cany_model.specs.Bus.Slot.{least_frame, sends, share_of, winner}
use Rattle.cany_model.specs.Bus.State.{NodeState, node_at, runs}
use Rattle.can_arbiter.specs.declared.arbitration.Outcome.{Outcome}
use Rattle.can_arbiter.specs.declared.arbitration.Outcome.TheVariants.{Idle, Won}
use Rattle.can_arbiter.specs.Outcome.{frame_of}
use Rattle.can_controller.specs.Controller.{ControllerState, seen, stopped_at}

-- of the frames that a controller waits with the first wins, and each other has a greater key
pub record StandInOrder (format : Format) (frames : List FrameParts) : Type 0 where
  pub head : least_frame frames ≡ slice_get frames 0
  pub least_key : IfSome (slice_get frames 0) (λ f. All (λ g. (g ≡ f) ⊎ (key_of format f < key_of format g)) frames)

-- the senders of a frame that is carried are the nodes that wait with it
abbrev pub HasSenders : List NodeState → Outcome → Type 0
HasSenders nodes Idle = Unit {0}
HasSenders nodes (Won frame senders) = senders ≡ those_where (λ i. sends frame (node_at nodes i))

pub record IsContestOf (nodes : List NodeState) (outcome : Outcome) : Type 0 where
  pub frame : frame_of outcome ≡ winner nodes
  pub senders : HasSenders nodes outcome

-- the nodes that run
abbrev pub running_nodes : List NodeState → Nodes
running_nodes nodes = those_where (λ i. runs (node_at nodes i))

-- the controller of node i after its share in the slot, before the stops
abbrev pub seen_by : SlotNote → ℕ → ControllerState → ControllerState
seen_by note i c = if is_none c.stopped then seen note.slot (share_of i note) c else c

-- the controller of node i after the stops of the slot
abbrev pub stopped_by : ℕ → Nodes → ℕ → ControllerState → ControllerState
stopped_by slot stops i c = if has stops i then stopped_at slot c else c
