-- Views of the site: who asks to join and to leave, what a member starts a cycle with, and how a
-- vector becomes the view.
use Rattle.std.specs.Prelude.{ℕ, ◌==◌, if◌then◌else◌, List, [], ◌∷◌, filter, map, Option, Some, None}
use Rattle.cany_base.specs.declared.class.Class.{Class}
use Rattle.cany_base.specs.declared.class.Class.TheVariants as class
use Rattle.cany_base.specs.declared.log_entry.LogEntry.TheVariants.{View}
use Rattle.cany_base.specs.declared.message.NodeAsk.{NodeAsk}
use Rattle.cany_base.specs.declared.notice.NoticeKind.{NoticeKind}
use Rattle.cany_base.specs.declared.notice.NoticeKind.TheVariants.{Idle, Got, Sent, Bad}
use Rattle.cany_base.specs.Frame.{FrameParts}
use Rattle.cany_base.specs.Nodes.{Nodes, has, meet, plus, minus, with_node}
use Rattle.cany_base.specs.Params.{Parameters}
use Rattle.cany_model.specs.Bus.Frames.{Identity, same_class}
use Rattle.cany_model.specs.Rules.Effect.{Effect, Ask, Withdraw, Enter}
use Rattle.cany_model.specs.Rules.Knowledge.{Knowledge, after_admitting}
use Rattle.cany_base.specs.Cycles.{cycle_of}

-- ---- asks that are heard

-- a node outside the view asks to join it
abbrev pub with_joiner : ℕ → Knowledge → Knowledge
with_joiner r knowledge = if has knowledge.members r then knowledge else record knowledge { joiners = with_node r knowledge.joiners }

-- a member asks to leave
abbrev pub with_leaver : ℕ → Knowledge → Knowledge
with_leaver r knowledge = if has knowledge.members r then record knowledge { leavers = with_node r knowledge.leavers } else knowledge

-- A join counts where it is got, a leave also where it is the node's own.
unfoldable pub after_ask : NoticeKind → Knowledge → Knowledge
after_ask Idle knowledge = knowledge
after_ask (Got f) knowledge =
    if same_class f.class class.Join then with_joiner f.node knowledge
    else if same_class f.class class.Leave then with_leaver f.node knowledge
    else knowledge
after_ask (Sent f) knowledge = if same_class f.class class.Leave then with_leaver f.node knowledge else knowledge
after_ask Bad knowledge = knowledge

-- ---- the start of a cycle

-- a member starts with the members that have not failed and do not leave, and with those that join
abbrev pub start_vector : Knowledge → Nodes
start_vector knowledge = plus (minus (minus knowledge.members knowledge.failed) knowledge.leavers) knowledge.joiners

abbrev pub start_of : ℕ → Knowledge → Option Nodes
start_of i knowledge = if has knowledge.members i then Some (start_vector knowledge) else None

-- ---- the end of a cycle

-- The vector becomes the view. Those that were not in the view before are newly admitted. Who is in
-- it asks no longer to join, and who is not in it no longer to leave.
abbrev pub with_view : ℕ → ℕ → Nodes → Knowledge → Knowledge
with_view i slot v knowledge = record (after_admitting i slot (minus v knowledge.members) knowledge) {
  members = v;
  joiners = minus knowledge.joiners v;
  leavers = meet knowledge.leavers v;
  vector = None;
}

unfoldable pub with_ended : ℕ → ℕ → Option Nodes → Knowledge → Knowledge
with_ended i slot None knowledge = knowledge
with_ended i slot (Some v) knowledge = with_view i slot v knowledge

-- a frame by which an incarnation of node i asks to join or to leave
abbrev pub ask_frame : Class → ℕ → ℕ → ℕ → FrameParts
ask_frame class inc number i = record { class = class; number = number; node = i; inc = inc; payload = [] }

abbrev pub ask_of : Class → ℕ → ℕ → Identity
ask_of class number i = record { class = class; number = number; node = i }

-- The frames of this class by which node i may have asked wait no longer, whatever their number:
-- one withdrawal for each of its entries is the same, for nothing but an entry makes it ask for
-- one.
abbrev pub withdrawn_asks : Class → Parameters → ℕ → List NodeAsk → List Effect
withdrawn_asks class p i asks =
    map (λ ask. Withdraw (ask_of class (cycle_of p ask.slot) i)) (filter (λ ask. ask.node == i) asks)

-- A node of the new view enters it, and withdraws its asks to join. One that is not in it withdraws
-- its asks to leave.
unfoldable pub view_effects : Parameters → List NodeAsk → List NodeAsk → ℕ → ℕ → Option Nodes → List Effect
view_effects p joins leaves i slot None = []
view_effects p joins leaves i slot (Some v) =
    if has v i then Enter (View slot (cycle_of p slot) v) ∷ withdrawn_asks class.Join p i joins
    else withdrawn_asks class.Leave p i leaves

-- ---- asks that are scripted

-- by a scripted join of the slot a node that is no member asks to join
abbrev pub join_asked : Parameters → ℕ → ℕ → ℕ → Nodes → List Effect
join_asked p inc i slot members = if has members i then [] else Ask (ask_frame class.Join inc (cycle_of p slot) i) ∷ []

-- by a scripted leave of the slot a member asks to leave
abbrev pub leave_asked : Parameters → ℕ → ℕ → ℕ → Nodes → List Effect
leave_asked p inc i slot members = if has members i then Ask (ask_frame class.Leave inc (cycle_of p slot) i) ∷ [] else []
