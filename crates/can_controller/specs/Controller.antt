-- What a contract sees of a controller, and what its share in a slot does to it.
use Rattle.std.specs.Prelude.{◌≡◌, ◌+◌, ◌<◌, ◌≤◌, ℕ, true, if◌then◌else◌, List, [], ◌∷◌, ◌++◌, length, Option, Some, None, unwrap_or}
use Rattle.cany_base.specs.declared.notice.Notice.{Notice}
use Rattle.cany_base.specs.declared.slot_note.SlotNote.{SlotNote}
use Rattle.cany_base.specs.Frame.{FrameParts}
use Rattle.cany_base.specs.Nodes.{has}
use Rattle.cany_base.specs.Params.{Parameters}
use Rattle.cany_model.specs.declared.share.Share.{Share}
use Rattle.cany_model.specs.Bus.History.{notice_of}
use Rattle.cany_model.specs.Bus.Slot.{after_share, exceeds, node_after, share_of}
use Rattle.cany_model.specs.Bus.State.{NodeState, fresh}

-- what it was built with: its node, the parameters and how many frames may wait; the waiting frames
-- in the order in which they win; the error counters; the notices not read yet, oldest first, and
-- the next slot to read; the slot of its stop
pub record ControllerState : Type 0 where
  pub node : ℕ
  pub params : Parameters
  pub room : ℕ
  pub waiting : List FrameParts
  pub transmit : ℕ
  pub receive : ℕ
  pub unread : List Notice
  pub read : ℕ
  pub stopped : Option ℕ

-- the controller's node, as a run has it while it runs: of a stopped node a run goes on counting
-- the slots as unread. Which incarnation it is of, a controller does not know.
abbrev pub node_state : ControllerState → NodeState
node_state c = record fresh {
  unread = length c.unread;
  waiting = c.waiting;
  transmit = c.transmit;
  receive = c.receive;
  stopped = c.stopped;
}

-- nothing waits, nothing was seen
abbrev pub fresh_controller : ℕ → Parameters → ℕ → ControllerState
fresh_controller node params room = record {
  node = node;
  params = params;
  room = room;
  waiting = [];
  transmit = 0;
  receive = 0;
  unread = [];
  read = 0;
  stopped = None;
}

-- a running controller after its share in a slot: its frames and counters are those that the share
-- leaves, one more notice is unread, and it stops where a counter exceeds the limit
abbrev pub seen : ℕ → Share → ControllerState → ControllerState
seen slot share c =
    let after = after_share share (node_state c) in
    record c {
      waiting = after.waiting;
      transmit = after.transmit;
      receive = after.receive;
      unread = c.unread ++ record { slot = slot; kind = notice_of share } ∷ [];
      stopped = if exceeds after then Some slot else None;
    }

-- the controller after its stop in a slot: one that has stopped stays as it is
abbrev pub stopped_at : ℕ → ControllerState → ControllerState
stopped_at slot c = record c { stopped = Some (unwrap_or c.stopped slot) }

-- the controller after the restart of its node at the end of a slot: it runs, nothing waits,
-- nothing is unread, its counters are zero, and the next slot is the next to read
abbrev pub restarted_at : ℕ → ControllerState → ControllerState
restarted_at slot c = record (fresh_controller c.node c.params c.room) { read = slot + 1 }

-- the controller stopped in a slot, not after this one
pub record HasStoppedBy (slot : ℕ) (c : ControllerState) : Type 0 where
  pub within : slot < c.params.slots
  pub stop : ℕ
  pub stopped : c.stopped ≡ Some stop
  pub by_then : stop ≤ slot

-- a running controller that sees its share, and then stops where the note stops its node, is the
-- node after the slot, where the note stops a node whose counters exceed the limit
abbrev pub SeenIsNodeAfter : ℕ → SlotNote → ControllerState → Type 0
SeenIsNodeAfter i note c =
    c.stopped ≡ None → (exceeds (after_share (share_of i note) (node_state c)) ≡ true → has note.stops i ≡ true)
    → node_state (let c' = seen note.slot (share_of i note) c in if has note.stops i then stopped_at note.slot c' else c') ≡ node_after i note (node_state c)
