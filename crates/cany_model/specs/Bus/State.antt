-- What a run has come to. There are no rings, queues, timers or tables of a protocol in it.
use Rattle.std.specs.Prelude.{ℕ, ◌-◌, Bool, List, [], Option, Some, None, is_none, length, replicate, slice_index_or}
use Rattle.cany_base.specs.declared.slot_note.SlotNote.{SlotNote}
use Rattle.cany_base.specs.Frame.{FrameParts}

-- An incarnation of a node: its number, counted from 0 at the opening; the first slot that gives it
-- a notice; the first in which it takes part; and the first membership cycle in which it does. The
-- notice of an earlier slot counts as idle, and no scripted ask of one is made. So does the notice
-- of a slot that carries a vector of an earlier cycle.
pub record Incarnation : Type 0 where
  pub number : ℕ
  pub since : ℕ
  pub from : ℕ
  pub cycle : ℕ

-- an incarnation as it is when it ends: the next slot that it would have read, and the slot of its
-- stop
pub record EndedIncarnation : Type 0 where
  pub incarnation : Incarnation
  pub next : ℕ
  pub stopped : Option ℕ

-- one node: its present incarnation and those that have ended, the newest first; how many of the
-- slots that ran it has not read, the frames that its controller waits with, in the order in which
-- they win, its error counters, and the slot of its stop
pub record NodeState : Type 0 where
  pub present : Incarnation
  pub ended : List EndedIncarnation
  pub unread : ℕ
  pub waiting : List FrameParts
  pub transmit : ℕ
  pub receive : ℕ
  pub stopped : Option ℕ

-- the notes of the slots that ran, newest first, and the nodes by number
pub record RunState : Type 0 where
  pub trace : List SlotNote
  pub nodes : List NodeState

abbrev pub original : Incarnation
original = record { number = 0; since = 0; from = 0; cycle = 0 }

abbrev pub fresh : NodeState
fresh = record { present = original; ended = []; unread = 0; waiting = []; transmit = 0; receive = 0; stopped = None }

-- what stands where there is no node
abbrev pub absent : NodeState
absent = record { present = original; ended = []; unread = 0; waiting = []; transmit = 0; receive = 0; stopped = Some 0 }

abbrev pub opening : ℕ → RunState
opening nodes = record { trace = []; nodes = replicate nodes fresh }

unfoldable pub node_at : List NodeState → ℕ → NodeState
node_at nodes i = slice_index_or nodes i absent

abbrev pub runs : NodeState → Bool
runs node = is_none node.stopped

-- how many slots ran
abbrev pub slots_run : RunState → ℕ
slots_run s = length s.trace

-- the next slot that the node has to read
abbrev pub reads : RunState → ℕ → ℕ
reads s i = length s.trace - (node_at s.nodes i).unread
