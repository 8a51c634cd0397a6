-- Reception history vectors: in each membership cycle the nodes come to one set of nodes by
-- exchanging it.
use Rattle.std.specs.Prelude.{ℕ, ◌==◌, ◌&&◌, ◌||◌, ◌++◌, Bool, false, true, not, nat_lt, if◌then◌else◌, List, [], ◌∷◌, length, Option, Some, None, count_by, unwrap_or}
use Rattle.std.specs.List.{list_any}
use Rattle.cany_base.specs.declared.class.Class.TheVariants as class
use Rattle.cany_base.specs.declared.format.Format.{Format}
use Rattle.cany_base.specs.declared.notice.NoticeKind.{NoticeKind}
use Rattle.cany_base.specs.declared.notice.NoticeKind.TheVariants.{Idle, Got, Sent, Bad}
use Rattle.cany_base.specs.Frame.{FrameParts}
use Rattle.cany_base.specs.Nodes.{Nodes, those_where, meet}
use Rattle.cany_base.specs.Cycles.{cycle_of, is_end, is_exchange, is_start}
use Rattle.cany_base.specs.Params.{Parameters}
use Rattle.cany_base.specs.Payload.{vector_bytes, vector_of}
use Rattle.cany_model.specs.Bus.Frames.{Identity, same_class}
use Rattle.cany_model.specs.Rules.Effect.{Effect, Ask, Withdraw}

-- the nodes of the bus
abbrev pub everybody : Parameters → Nodes
everybody p = those_where (λ r. nat_lt r p.nodes)

-- ---- frames

-- the vector of node i in a cycle, as an incarnation of this number sends it
abbrev pub rha_frame : Format → ℕ → ℕ → ℕ → Nodes → FrameParts
rha_frame format inc cycle i v = record { class = class.Rha; number = cycle; node = i; inc = inc; payload = vector_bytes format v }

abbrev pub rha_of : ℕ → ℕ → Identity
rha_of cycle i = record { class = class.Rha; number = cycle; node = i }

-- the vector of the cycle that a frame carries
abbrev pub vector_in : Format → ℕ → FrameParts → Option Nodes
vector_in format cycle f = if same_class f.class class.Rha && f.number == cycle then vector_of format f.payload else None

-- the vector that a notice of the slot brings: one of the present cycle that the node got while
-- vectors are exchanged
unfoldable pub brought : Parameters → ℕ → NoticeKind → Option Nodes
brought p slot Idle = None
brought p slot (Got f) = if is_exchange p slot then vector_in p.format (cycle_of p slot) f else None
brought p slot (Sent f) = None
brought p slot Bad = None

-- ---- the vector of a node: none where it is no member, until another one brings one

-- a vector that is brought is met with the node's own, and with the set of all nodes where it has
-- none
abbrev pub met_with : Parameters → Option Nodes → Nodes → Nodes
met_with p old w = meet (unwrap_or old (everybody p)) w

unfoldable pub met : Parameters → Option Nodes → Option Nodes → Option Nodes
met p old None = old
met p old (Some w) = Some (met_with p old w)

-- the vector that becomes the view in a slot: the one that the node has at the end of the cycle
abbrev pub ended : Parameters → ℕ → Option Nodes → Option Nodes
ended p slot vector = if is_end p slot then vector else None

-- The vector after the turn of a slot. At the end of the cycle it is given up, and at the start of
-- one it is what the node starts with.
abbrev pub after_exchange : Parameters → ℕ → NoticeKind → Option Nodes → Option Nodes → Option Nodes
after_exchange p slot notice start old =
    if is_start p slot then start else if is_end p slot then None else met p old (brought p slot notice)

-- ---- what a node sends of it

-- whether it is just this vector
unfoldable pub is_just : Nodes → Option Nodes → Bool
is_just v None = false
is_just v (Some w) = w.bits == v.bits

abbrev pub is_vector_got : Format → ℕ → Nodes → NoticeKind → Bool
is_vector_got format cycle v Idle = false
is_vector_got format cycle v (Got f) = is_just v (vector_in format cycle f)
is_vector_got format cycle v (Sent f) = false
is_vector_got format cycle v Bad = false

abbrev pub is_vector_sent : Format → ℕ → ℕ → Nodes → NoticeKind → Bool
is_vector_sent format cycle i v Idle = false
is_vector_sent format cycle i v (Got f) = false
is_vector_sent format cycle i v (Sent f) = f.node == i && is_just v (vector_in format cycle f)
is_vector_sent format cycle i v Bad = false

-- the node has sent the vector in the cycle, or got just this one more than omit times
unfoldable pub is_covered : Parameters → ℕ → ℕ → Nodes → List NoticeKind → Bool
is_covered p cycle i v past =
    list_any (is_vector_sent p.format cycle i v) past || nat_lt p.omit (count_by (is_vector_got p.format cycle v) past)

-- the vector differs from the one before, or there was none before
unfoldable pub is_new : Option Nodes → Nodes → Bool
is_new None v = true
is_new (Some u) v = not (u.bits == v.bits)

-- where a vector was brought: the node's own before, and after
abbrev pub vector_effects_of : Parameters → ℕ → ℕ → ℕ → List NoticeKind → Option Nodes → Nodes → List Effect
vector_effects_of p inc i slot past old v =
    if is_covered p (cycle_of p slot) i v past then Withdraw (rha_of (cycle_of p slot) i) ∷ []
    else if is_new old v then Ask (rha_frame p.format inc (cycle_of p slot) i v) ∷ []
    else []

unfoldable pub vector_effects : Parameters → ℕ → ℕ → ℕ → List NoticeKind → Option Nodes → Option Nodes → List Effect
vector_effects p inc i slot past old None = []
vector_effects p inc i slot past old (Some w) = vector_effects_of p inc i slot past old (met_with p old w)

-- at the end of the cycle the vector is given up, and its frame waits no longer
unfoldable pub end_effects : Parameters → ℕ → ℕ → Option Nodes → List Effect
end_effects p i slot None = []
end_effects p i slot (Some v) = Withdraw (rha_of (cycle_of p slot) i) ∷ []

-- at the start of a cycle a member sends what it starts with
unfoldable pub start_effects : Parameters → ℕ → ℕ → ℕ → Option Nodes → List Effect
start_effects p inc i slot None = []
start_effects p inc i slot (Some v) = if is_start p slot then Ask (rha_frame p.format inc (cycle_of p slot) i v) ∷ [] else []

-- All of it in the turn of a notice: what was read before it is given, the vector that the node had
-- then, and what it starts with if a cycle starts.
unfoldable pub exchange_at : Parameters → ℕ → ℕ → NoticeKind → List NoticeKind → Option Nodes → Option Nodes → List Effect
exchange_at p inc i notice before old start =
    vector_effects p inc i (length before) (notice ∷ before) old (brought p (length before) notice)
    ++ end_effects p i (length before) (ended p (length before) (met p old (brought p (length before) notice)))
    ++ start_effects p inc i (length before) start
