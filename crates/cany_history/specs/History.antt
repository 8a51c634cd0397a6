-- What a value of reception history vectors stands for.
use Rattle.std.specs.Prelude.{◌≡◌, ℕ, ◌+◌, ◌*◌, ◌<◌, ◌≤◌, ◌==◌, Bool, true, false, if◌then◌else◌, List, [], ◌∷◌, length, Option, Some, None, IfSome, count_by}
use Rattle.std.specs.List.{AllByRecursion, list_any}
use Rattle.cany_base.specs.declared.format.Format.{Format}
use Rattle.cany_base.specs.declared.notice.Notice.{Notice}
use Rattle.cany_base.specs.declared.notice.NoticeKind.{NoticeKind}
use Rattle.cany_base.specs.declared.notice.NoticeKind.TheVariants.{Idle, Got, Sent, Bad}
use Rattle.cany_base.specs.Nodes.{Nodes, AllBelow}
use Rattle.cany_base.specs.Params.{Parameters}
use Rattle.cany_base.specs.Scenario.{ScenarioParts, IsLegalScenario}
use Rattle.cany_model.specs.Rules.Notices.{IsNextNotice, IsPart, IsReadableVector}
use Rattle.cany_model.specs.Rules.Vectors.{brought, ended, exchange_at, is_vector_got, is_vector_sent, met, vector_in}
use Rattle.cany_base.specs.Cycles.{cycle_of, is_end, is_exchange, is_start}

-- the node, the parameters, its vector of the present cycle if it has one, how many copies of just
-- this vector it got, and whether it has sent it
pub record HistoryParts : Type 0 where
  pub node : ℕ
  pub params : Parameters
  pub vector : Option Nodes
  pub copies : ℕ
  pub sent : Bool

-- ---- what was read of the vectors of a cycle

-- the vector of the cycle in a notice of node i: one that it got, or its own that it sent
abbrev pub vector_read : Format → ℕ → ℕ → NoticeKind → Option Nodes
vector_read format cycle i Idle = None
vector_read format cycle i (Got f) = vector_in format cycle f
vector_read format cycle i (Sent f) = if f.node == i then vector_in format cycle f else None
vector_read format cycle i Bad = None

abbrev pub HasNoVector : Format → ℕ → ℕ → NoticeKind → Type 0
HasNoVector format cycle i notice = vector_read format cycle i notice ≡ None

-- the node has a vector, and all of it stands in this set
abbrev pub StandsIn : Option Nodes → Nodes → Type 0
StandsIn None w = ⊥
StandsIn (Some v) w = IsPart v w

-- a vector of the cycle in the notice has all of the node's present one
abbrev pub HasMore : Format → ℕ → ℕ → Option Nodes → NoticeKind → Type 0
HasMore format cycle i vector notice = (w : Nodes) → vector_read format cycle i notice ≡ Some w → StandsIn vector w

-- What was read of the cycle while its vectors are exchanged, by a node with this vector now: each
-- vector that was read has all of it, and there was none where the node has none. The copies of
-- just this vector are counted, and the node's own transmission is noted.
pub record IsExchangeOf (p : Parameters) (cycle i : ℕ) (past : List NoticeKind) (vector : Option Nodes) (v : HistoryParts) : Type 0 where
  pub more : AllByRecursion (HasMore p.format cycle i vector) past
  pub copies : IfSome vector (λ own. v.copies ≡ count_by (is_vector_got p.format cycle own) past)
  pub sent : IfSome vector (λ own. v.sent ≡ list_any (is_vector_sent p.format cycle i own) past)

-- what never changes: the node is node i of the scenario, and has its parameters
pub record HasLimitsOf (scenario : ScenarioParts) (i node : ℕ) (params : Parameters) : Type 0 where
  pub legal : IsLegalScenario scenario
  pub place : i < scenario.params.nodes
  pub is_node : node ≡ i
  pub are_params : params ≡ scenario.params

-- The value is that of node i after these notices, newest first, where this is its vector. By its
-- start nothing was read of a cycle, and while vectors are exchanged the value has what was read of
-- the present one.
pub record IsHistoryOf (scenario : ScenarioParts) (i : ℕ) (past : List NoticeKind) (own : Option Nodes) (v : HistoryParts) : Type 0 where
  pub limits : HasLimitsOf scenario i v.node v.params
  pub vector : v.vector ≡ own
  pub below : IfSome own (AllBelow scenario.params.nodes)
  pub few : v.copies ≤ length past
  pub unread :
      (cycle : ℕ) → length past ≤ cycle * scenario.params.cycle + 1 → AllByRecursion (HasNoVector scenario.params.format cycle i) past
  pub exchange :
      is_exchange scenario.params (length past) ≡ true → IsExchangeOf scenario.params (cycle_of scenario.params (length past)) i past own v

-- ---- what can come next

-- the notice can come next at a node with this vector
pub record IsNextAt (scenario : ScenarioParts) (i : ℕ) (past : List NoticeKind) (own : Option Nodes) (notice : Notice) : Type 0 where
  pub next : IsNextNotice scenario past notice
  pub vector : IsReadableVector scenario.params i notice.slot own notice.kind

-- the vector with which a cycle can start in the slot: there is none where no cycle starts, and it
-- has nodes of the bus alone
pub record StartsWith (p : Parameters) (slot : ℕ) (start : Option Nodes) : Type 0 where
  pub none : is_start p slot ≡ false → start ≡ None
  pub below : IfSome start (AllBelow p.nodes)

-- there are notices, and a vector, that the value stands for, and this notice can come after them
pub record CanRead (v : HistoryParts) (notice : Notice) : Type 0 where
  pub scenario : ScenarioParts
  pub past : List NoticeKind
  pub vector : Option Nodes
  pub stands : IsHistoryOf scenario v.node past vector v
  pub next : IsNextAt scenario v.node past vector notice

-- ---- an idle notice that leads to nothing

-- The value stands for one idle notice more as it is. No cycle starts or ends in its slot, and the
-- node keeps its vector and does nothing.
pub record Rests (scenario : ScenarioParts) (i : ℕ) (past : List NoticeKind) (own : Option Nodes) (v : HistoryParts) : Type 0 where
  pub stands : IsHistoryOf scenario i (Idle ∷ past) own v
  pub start : is_start scenario.params (length past) ≡ false
  pub end : is_end scenario.params (length past) ≡ false
  pub kept : met scenario.params own (brought scenario.params (length past) Idle) ≡ own
  pub none : ended scenario.params (length past) (met scenario.params own (brought scenario.params (length past) Idle)) ≡ None
  pub effects : exchange_at scenario.params 0 i Idle past own None ≡ []
