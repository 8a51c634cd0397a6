-- When the notices of a node are those of a run of the scenario, as far as its protocols rest on
-- it.
use Rattle.std.specs.Prelude.{◌≡◌, ◌<◌, ◌≤◌, ◌*◌, ◌/◌, ◌&&◌, ℕ, Bool, true, false, nat_lt, List, length, Contains, Option, Some, None}
use Rattle.cany_base.specs.declared.class.Class.{Class}
use Rattle.cany_base.specs.declared.class.Class.TheVariants.{Accept, Rha, Els, Fda, Join, Leave, Confirm, Tot, Rel, Ed}
use Rattle.cany_base.specs.declared.message.Service.{Service}
use Rattle.cany_base.specs.declared.message.Service.TheVariants as service
use Rattle.cany_base.specs.declared.notice.Notice.{Notice}
use Rattle.cany_base.specs.declared.notice.NoticeKind.{NoticeKind}
use Rattle.cany_base.specs.declared.notice.NoticeKind.TheVariants.{Idle, Got, Sent, Bad}
use Rattle.cany_base.specs.Frame.{FrameParts}
use Rattle.cany_base.specs.Nodes.{Nodes, has}
use Rattle.cany_base.specs.Params.{Parameters}
use Rattle.cany_base.specs.Scenario.{ScenarioParts}
use Rattle.cany_model.specs.Bus.Frames.{identity_of, same_class}
use Rattle.cany_model.specs.Rules.Life.{life_signs_sent}
use Rattle.cany_model.specs.Rules.Messages.{IsOfMessage, Message, messages_of, data_frame}
use Rattle.cany_model.specs.Rules.Vectors.{vector_in}
use Rattle.cany_base.specs.Cycles.{cycle_of, is_exchange}

-- the frame carries the data of a message of the scenario, by this service
pub record IsDataOf (scenario : ScenarioParts) (kind : Service) (f : FrameParts) : Type 0 where
  pub message : Message
  pub stands : Contains (messages_of scenario.sends) message
  pub sent_by : message.service ≡ kind
  pub frame : data_frame message ≡ f

-- the frame names a message of the scenario, of this service
abbrev pub NamesMessage : ScenarioParts → Service → FrameParts → Type 0
NamesMessage scenario kind f = IsOfMessage scenario kind (identity_of f)

-- the frame names a node of the bus, and a number that it can have reached after so many intervals
-- of this length
pub record NamesNode (scenario : ScenarioParts) (interval slot : ℕ) (f : FrameParts) : Type 0 where
  pub node : f.node < scenario.params.nodes
  pub number : f.number ≤ slot / interval

-- the frame is a life sign of a node of the bus: before it as many of its life intervals have
-- passed as its number tells
pub record NamesLife (scenario : ScenarioParts) (slot : ℕ) (f : FrameParts) : Type 0 where
  pub node : f.node < scenario.params.nodes
  pub passed : f.number * scenario.params.life ≤ slot

-- a frame that a node of the scenario can have read in this slot
abbrev pub BelongsTo : ScenarioParts → ℕ → Class → FrameParts → Type 0
BelongsTo scenario slot Accept f = NamesMessage scenario service.Tot f
BelongsTo scenario slot Rha f = NamesNode scenario scenario.params.cycle slot f
BelongsTo scenario slot Els f = NamesLife scenario slot f
BelongsTo scenario slot Fda f = NamesNode scenario scenario.params.cycle slot f
BelongsTo scenario slot Join f = NamesNode scenario scenario.params.cycle slot f
BelongsTo scenario slot Leave f = NamesNode scenario scenario.params.cycle slot f
BelongsTo scenario slot Confirm f = NamesMessage scenario service.Rel f
BelongsTo scenario slot Tot f = IsDataOf scenario service.Tot f
BelongsTo scenario slot Rel f = IsDataOf scenario service.Rel f
BelongsTo scenario slot Ed f = IsDataOf scenario service.Ed f

abbrev pub IsReadable : ScenarioParts → ℕ → NoticeKind → Type 0
IsReadable scenario slot Idle = Unit {0}
IsReadable scenario slot Bad = Unit {0}
IsReadable scenario slot (Got f) = BelongsTo scenario slot f.class f
IsReadable scenario slot (Sent f) = BelongsTo scenario slot f.class f

-- of the node's own life signs there are so few in these notices that a life interval can have
-- passed before each by this slot
abbrev pub HasFewSigns : ScenarioParts → ℕ → List NoticeKind → ℕ → Type 0
HasFewSigns scenario i past slot = life_signs_sent i past * scenario.params.life ≤ slot

-- the notice that comes after these, newest first: its slot is the next, and is one of the run; a
-- frame in it belongs to the scenario
pub record IsNextNotice (scenario : ScenarioParts) (past : List NoticeKind) (notice : Notice) : Type 0 where
  pub slot : notice.slot ≡ length past
  pub within : notice.slot < scenario.params.slots
  pub readable : IsReadable scenario notice.slot notice.kind

-- ---- vectors

-- each node of the one set stands in the other
abbrev pub IsPart : Nodes → Nodes → Type 0
IsPart a b = (r : ℕ) → has a r ≡ true → has b r ≡ true

-- a frame of the class of vectors is read in a slot after the start of its cycle
abbrev pub IsReadAfterStart : Parameters → ℕ → FrameParts → Type 0
IsReadAfterStart p slot f = f.class ≡ Rha → f.number * p.cycle < slot

-- the node has a vector, and a frame of the cycle carries all of it
abbrev pub CarriesMore : Parameters → ℕ → FrameParts → Option Nodes → Type 0
CarriesMore p cycle f None = ⊥
CarriesMore p cycle f (Some v) = (w : Nodes) → vector_in p.format cycle f ≡ Some w → IsPart v w

-- a vector of its own that it reads as sent, while vectors of the cycle are exchanged, has all of
-- its present one
abbrev pub IsSentWithMore : Parameters → ℕ → ℕ → Option Nodes → FrameParts → Type 0
IsSentWithMore p i slot vector f =
    f.class ≡ Rha → f.node ≡ i → f.number ≡ cycle_of p slot → is_exchange p slot ≡ true → CarriesMore p (cycle_of p slot) f vector

-- The notice can be read by node i in the slot, as far as vectors go, where this is its vector
-- before. So the copies of its vector, and its own transmission of it, can be counted from the
-- moment at which it came to have it.
abbrev pub IsReadableVector : Parameters → ℕ → ℕ → Option Nodes → NoticeKind → Type 0
IsReadableVector p i slot vector Idle = Unit {0}
IsReadableVector p i slot vector (Got f) = IsReadAfterStart p slot f
IsReadableVector p i slot vector (Sent f) = IsReadAfterStart p slot f × IsSentWithMore p i slot vector f
IsReadableVector p i slot vector Bad = Unit {0}

-- ---- what an incarnation does not hear

-- whether a notice brings a vector of a membership cycle before this one
abbrev pub is_early_frame : ℕ → FrameParts → Bool
is_early_frame cycle f = same_class f.class Rha && nat_lt f.number cycle

abbrev pub is_early : ℕ → NoticeKind → Bool
is_early cycle Idle = false
is_early cycle (Got f) = is_early_frame cycle f
is_early cycle (Sent f) = is_early_frame cycle f
is_early cycle Bad = false

-- no rule tells an error from an idle slot
abbrev pub error_as_idle : NoticeKind → NoticeKind
error_as_idle Idle = Idle
error_as_idle (Got f) = Got f
error_as_idle (Sent f) = Sent f
error_as_idle Bad = Idle
