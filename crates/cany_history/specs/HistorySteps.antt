-- What a notice, the end of a cycle and the start of one do to a value of reception history
-- vectors, and the actions that they call for.
use Rattle.std.specs.Prelude.{◌≡◌, ℕ, ◌+◌, ◌<◌, ◌≤◌, ◌==◌, ◌&&◌, ◌||◌, Bool, true, false, nat_lt, if◌then◌else◌, List, [], ◌∷◌, Option, Some, None}
use Rattle.cany_base.specs.declared.actions.Action.{Action}
use Rattle.cany_base.specs.declared.actions.Action.TheVariants.{Ask, Withdraw}
use Rattle.cany_base.specs.declared.notice.NoticeKind.{NoticeKind}
use Rattle.cany_base.specs.declared.notice.NoticeKind.TheVariants.{Idle, Got, Sent, Bad}
use Rattle.cany_base.specs.Frame.{FrameParts}
use Rattle.cany_base.specs.Layout.{layout}
use Rattle.cany_base.specs.Limits.{most_numbers}
use Rattle.cany_base.specs.Nodes.{Nodes}
use Rattle.cany_base.specs.Params.{Parameters}
use Rattle.cany_model.specs.Rules.Actions.{ident_of}
use Rattle.cany_model.specs.Rules.Vectors.{brought, is_just, is_new, met_with, rha_frame, rha_of, vector_in}
use Rattle.cany_base.specs.Cycles.{cycle_of, is_end, is_start}
use Rattle.cany_history.specs.History.{HistoryParts}

-- The node is one of the bus, which has not too many for the format, and the cycle of the slot has
-- a number that frames have room for.
pub record IsInRun (slot : ℕ) (v : HistoryParts) : Type 0 where
  pub cycle : 0 < v.params.cycle
  pub number : cycle_of v.params slot < most_numbers
  pub nodes : v.params.nodes ≤ (layout v.params.format).nodes
  pub place : v.node < v.params.nodes

-- the frame of a vector in the cycle of the slot
abbrev pub frame_at : ℕ → HistoryParts → Nodes → FrameParts
frame_at slot v own = rha_frame v.params.format 0 (cycle_of v.params slot) v.node own

abbrev pub ask_at : ℕ → HistoryParts → Nodes → Action
ask_at slot v own = Ask (frame_at slot v own)

abbrev pub withdrawal_at : ℕ → HistoryParts → Action
withdrawal_at slot v = Withdraw (ident_of v.params.format (rha_of (cycle_of v.params slot) v.node))

-- ---- a notice

-- The node's vector is now this one, after it got another: only copies of just this vector count.
abbrev pub with_vector : Nodes → Nodes → Bool → HistoryParts → HistoryParts
with_vector got own is_other v = record v {
  vector = Some own;
  copies = (if is_other then 0 else v.copies) + (if got.bits == own.bits then 1 else 0);
  sent = (if is_other then false else v.sent);
}

-- the vector is met with one that is brought
abbrev pub met_by : Nodes → HistoryParts → HistoryParts
met_by got v = with_vector got (met_with v.params v.vector got) (is_new v.vector (met_with v.params v.vector got)) v

unfoldable pub after_meeting : Option Nodes → HistoryParts → HistoryParts
after_meeting None v = v
after_meeting (Some got) v = met_by got v

-- whether the frame is the node's own, with just its present vector
unfoldable pub is_just_own : Option Nodes → Option Nodes → Bool
is_just_own None read = false
is_just_own (Some own) read = is_just own read

abbrev pub is_own_vector : ℕ → FrameParts → HistoryParts → Bool
is_own_vector slot f v = f.node == v.node && is_just_own v.vector (vector_in v.params.format (cycle_of v.params slot) f)

abbrev pub after_sending : ℕ → FrameParts → HistoryParts → HistoryParts
after_sending slot f v = if is_own_vector slot f v then record v { sent = true } else v

unfoldable pub after_reading : ℕ → NoticeKind → HistoryParts → HistoryParts
after_reading slot Idle v = v
after_reading slot (Got f) v = after_meeting (brought v.params slot (Got f)) v
after_reading slot (Sent f) v = after_sending slot f v
after_reading slot Bad v = v

-- the node has sent its vector, or got more copies of it than there may be omissions
abbrev pub is_covered_by : HistoryParts → Bool
is_covered_by v = v.sent || nat_lt v.params.omit v.copies

abbrev pub met_actions : ℕ → Nodes → Bool → HistoryParts → List Action
met_actions slot own is_other v = if is_covered_by v then withdrawal_at slot v ∷ [] else if is_other then ask_at slot v own ∷ [] else []

abbrev pub got_actions : ℕ → Nodes → HistoryParts → List Action
got_actions slot got v =
    met_actions slot (met_with v.params v.vector got) (is_new v.vector (met_with v.params v.vector got)) (met_by got v)

unfoldable pub brought_actions : ℕ → Option Nodes → HistoryParts → List Action
brought_actions slot None v = []
brought_actions slot (Some got) v = got_actions slot got v

abbrev pub read_actions : ℕ → NoticeKind → HistoryParts → List Action
read_actions slot notice v = brought_actions slot (brought v.params slot notice) v

-- ---- the end of a cycle

abbrev pub after_ending : ℕ → HistoryParts → HistoryParts
after_ending slot v = if is_end v.params slot then record v { vector = None } else v

unfoldable pub end_actions : ℕ → HistoryParts → Option Nodes → List Action
end_actions slot v None = []
end_actions slot v (Some own) = withdrawal_at slot v ∷ []

-- ---- the start of a cycle

abbrev pub after_starting : ℕ → Option Nodes → HistoryParts → HistoryParts
after_starting slot start v = if is_start v.params slot then record v { vector = start; copies = 0; sent = false } else v

unfoldable pub start_actions : ℕ → HistoryParts → Option Nodes → List Action
start_actions slot v None = []
start_actions slot v (Some own) = ask_at slot v own ∷ []

-- ---- a slot in which no cycle starts or ends

abbrev pub IsPlain : Parameters → ℕ → Type 0
IsPlain p slot = (is_start p slot ≡ false) × (is_end p slot ≡ false)
