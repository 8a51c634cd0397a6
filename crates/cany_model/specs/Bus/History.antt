-- What a node has read: for each slot below the next one that it has to read, newest first, what it
-- gave the present incarnation.
use Rattle.std.specs.Prelude.{ℕ, zero, suc, ◌-◌, ◌==◌, ◌&&◌, ◌||◌, Bool, false, not, nat_lt, if◌then◌else◌, List, length, map, drop, count_by, None}
use Rattle.std.specs.List.{list_any}
use Rattle.cany_base.specs.declared.class.Class.TheVariants as class
use Rattle.cany_base.specs.declared.notice.NoticeKind.{NoticeKind}
use Rattle.cany_base.specs.declared.notice.NoticeKind.TheVariants.{Idle, Got, Sent, Bad}
use Rattle.cany_base.specs.declared.slot_note.SlotNote.{SlotNote}
use Rattle.cany_model.specs.declared.share.Share.{Share}
use Rattle.cany_model.specs.declared.share.Share.TheVariants as share
use Rattle.cany_model.specs.Bus.Frames.{Identity, is_of, same_class}
use Rattle.cany_model.specs.Bus.Slot.{carried, share_of}
use Rattle.cany_model.specs.Bus.State.{Incarnation, EndedIncarnation, RunState, node_at}

-- the notice that a share in a slot leads to
abbrev pub notice_of : Share → NoticeKind
notice_of share.Idle = Idle
notice_of (share.Took f) = Got f
notice_of share.Rejected = Bad
notice_of (share.Confirmed f) = Sent f
notice_of share.Errored = Bad

-- what a slot gave node i
abbrev pub given : ℕ → SlotNote → NoticeKind
given i note = notice_of (share_of i note)

-- whether the slot carries a vector of a membership cycle before this one
abbrev pub carries_early : ℕ → SlotNote → Bool
carries_early cycle note = carried (λ f. same_class f.class class.Rha && nat_lt f.number cycle) note

-- whether a slot comes before the first one in which an incarnation takes part, or carries a vector
-- of a cycle before the first in which it does, so that its notice counts as idle: the incarnation
-- of the opening takes part in all
unfoldable pub is_hidden : Incarnation → SlotNote → Bool
is_hidden inc note = not (inc.number == 0) && (nat_lt note.slot inc.from || carries_early inc.cycle note)

-- the slot as the incarnation sees it: idle, where it is hidden
unfoldable pub as_seen : Incarnation → SlotNote → SlotNote
as_seen inc note = if is_hidden inc note then record note { frame = None } else note

-- the trace as it sees it
abbrev pub seen : Incarnation → List SlotNote → List SlotNote
seen inc trace = map (as_seen inc) trace

-- the same, where the number of the incarnation is given apart, so that a node that never restarted
-- gets the very trace, and rows compute
abbrev pub trace_for : ℕ → Incarnation → List SlotNote → List SlotNote
trace_for zero inc trace = trace
trace_for (suc number) inc trace = seen inc trace

-- for each slot below the next one that node i has to read, what it gave its present incarnation
unfoldable pub history : ℕ → RunState → List NoticeKind
history i s =
    let node = node_at s.nodes i in
    map (given i) (drop node.unread (trace_for node.present.number node.present s.trace))

-- the history that an incarnation of node i had when the next one began
unfoldable pub ended_history : ℕ → List SlotNote → EndedIncarnation → List NoticeKind
ended_history i trace ended = map (given i) (drop (length trace - ended.next) (seen ended.incarnation trace))

abbrev pub is_got : Identity → NoticeKind → Bool
is_got x Idle = false
is_got x (Got f) = is_of x f
is_got x (Sent f) = false
is_got x Bad = false

abbrev pub is_sent : Identity → NoticeKind → Bool
is_sent x Idle = false
is_sent x (Got f) = false
is_sent x (Sent f) = is_of x f
is_sent x Bad = false

-- how many copies of a frame were read
unfoldable pub copies : Identity → List NoticeKind → ℕ
copies x past = count_by (is_got x) past

-- whether the node's own transmission of a frame was read
unfoldable pub has_own : Identity → List NoticeKind → Bool
has_own x past = list_any (is_sent x) past

-- what node i has read, or will have read, when all but so many of the newest slots are read
unfoldable pub history_but : ℕ → ℕ → RunState → List NoticeKind
history_but newest i s =
    let node = node_at s.nodes i in
    map (given i) (drop newest (trace_for node.present.number node.present s.trace))
