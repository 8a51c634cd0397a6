-- What a TOTCAN value stands for.
use Rattle.std.specs.Prelude.{◌≡◌, ℕ, ◌+◌, ◌-◌, ◌<◌, ◌≤◌, ◌==◌, Bool, true, false, if◌then◌else◌, List, [], ◌∷◌, Option, Some, None, Contains, count_by, length, map, slice_get, min, take}
use Rattle.std.specs.List.{AllByRecursion, list_any}
use Rattle.cany_base.specs.declared.format.Format.{Format}
use Rattle.cany_base.specs.declared.message.MsgKey.{MsgKey}
use Rattle.cany_base.specs.declared.message.Service.TheVariants as service
use Rattle.cany_base.specs.declared.notice.Notice.{Notice}
use Rattle.cany_base.specs.declared.notice.NoticeKind.{NoticeKind}
use Rattle.cany_base.specs.Frame.{FrameParts}
use Rattle.cany_base.specs.Limits.{most_nodes}
use Rattle.cany_base.specs.Params.{Parameters}
use Rattle.cany_base.specs.Scenario.{ScenarioParts, IsLegalScenario}
use Rattle.cany_model.specs.Bus.Frames.{identity_of, same_identity}
use Rattle.cany_model.specs.Bus.History.{copies, has_own}
use Rattle.cany_model.specs.Rules.Messages.{Message, accept_of_key, data_id, is_from, messages_of}
use Rattle.cany_model.specs.Rules.Notices.{IsNextNotice, NamesMessage}
use Rattle.cany_model.specs.Rules.Rooms.{sends_by}
use Rattle.cany_model.specs.Rules.Totcan.{after_place, delivered, holds, is_accepted, is_among as is_one_of, is_recent, message_in, tot_of_key}
use Rattle.cany_totcan.specs.declared.backlog.Given.{Given}
use Rattle.cany_totcan.specs.declared.queue.Open.{Open}
use Rattle.cany_totcan.specs.declared.queue.Placed.{Placed}
use Rattle.cany_totcan.specs.Acceptances.{noted_of}
use Rattle.cany_totcan.specs.Backlog.{BacklogParts, own_at}
use Rattle.cany_totcan.specs.MessageSet.{MessageSetParts, HasRoomOf, has_message, numbers_of}
use Rattle.cany_totcan.specs.Queue.{OpenParts, placed_in}

-- the node, the format of identifiers, how long a message stays open, how far the places of the
-- node's own messages lie apart, how many omissions of a frame there may be, the open messages,
-- each with what is noted of its acceptances, what was delivered, and the node's own messages
pub record TotcanParts : Type 0 where
  pub node : ℕ
  pub format : Format
  pub bound : ℕ
  pub spacing : ℕ
  pub omit : ℕ
  pub queue : OpenParts
  pub acceptances : List Open
  pub deliveries : MessageSetParts
  pub backlog : BacklogParts

abbrev pub key_of : (seq origin : ℕ) → MsgKey
key_of seq origin = record { origin = origin; seq = seq }

-- the value is that of a node of the scenario, with room for as many of its messages by TOTCAN as
-- are ever open at once
pub record HasLimitsOf (scenario : ScenarioParts) (i : ℕ) (v : TotcanParts) : Type 0 where
  pub legal : IsLegalScenario scenario
  pub node : v.node ≡ i
  pub format : v.format ≡ scenario.params.format
  pub bound : v.bound ≡ scenario.params.bound
  pub spacing : v.spacing ≡ scenario.params.bound + scenario.params.lag
  pub omit : v.omit ≡ scenario.params.omit
  pub room : v.queue.room ≤ sends_by scenario service.Tot
  pub at_once : v.queue.room ≡ min (sends_by scenario service.Tot) (scenario.params.bound + 1)
  pub numbers : v.queue.numbers ≡ numbers_of scenario
  pub deliveries : HasRoomOf scenario v.deliveries

-- What is noted of each message whose place is one of so many newest notices are the acceptances
-- that were read after the place.
pub record AreAcceptances (newest : ℕ) (past : List NoticeKind) (entries : List Open) : Type 0 where
  pub copies : (key : MsgKey) → is_recent newest key past ≡ true → (noted_of entries key).copies ≡ copies (accept_of_key key) (after_place key past)
  pub owned : (key : MsgKey) → is_recent newest key past ≡ true → (noted_of entries key).owned ≡ has_own (accept_of_key key) (after_place key past)

-- The open messages are those whose places are among so many newest notices, and are messages of
-- the scenario.
pub record AreOpen (scenario : ScenarioParts) (newest : ℕ) (past : List NoticeKind) (items : List Placed) : Type 0 where
  pub places : items ≡ placed_in newest past
  pub messages : AllByRecursion (λ x. NamesMessage scenario service.Tot x.frame) items

-- whether the message is one of those that these frames carry
abbrev pub is_carried : MsgKey → List FrameParts → Bool
is_carried key frames = list_any (λ g. same_identity (tot_of_key key) (identity_of g)) frames

-- what was delivered are the messages of these frames
abbrev pub AreDelivered : List FrameParts → MessageSetParts → Type 0
AreDelivered frames v = (seq origin : ℕ) → origin < most_nodes → has_message v seq origin ≡ is_carried (key_of seq origin) frames

-- the first of the open messages are done: they are accepted, and were delivered
abbrev pub AreDone : Parameters → ℕ → List NoticeKind → List FrameParts → List Placed → Type 0
AreDone p i past frames items =
    AllByRecursion (λ x. (is_accepted p.bound i (message_in x.frame) past ≡ true) × (is_one_of frames x.frame ≡ true)) items

-- the first that is not done is not accepted
abbrev pub IsFirstPending : Parameters → ℕ → List NoticeKind → Option Placed → Type 0
IsFirstPending p i past None = Unit {0}
IsFirstPending p i past (Some x) = is_accepted p.bound i (message_in x.frame) past ≡ false

-- ---- the node's own messages

-- the slot of the place of a message
unfoldable pub place_of : MsgKey → List NoticeKind → Option ℕ
place_of key [] = None
place_of key (notice ∷ before) = if holds key notice then Some (length before) else place_of key before

-- what the node was given of a message
abbrev pub given_of : Message → Given
given_of m = record { seq = m.seq; payload = m.payload }

-- the message is one of the node by TOTCAN
pub record IsOwnTot (scenario : ScenarioParts) (i : ℕ) (m : Message) : Type 0 where
  pub stands : Contains (messages_of scenario.sends) m
  pub sent_by : m.service ≡ service.Tot
  pub origin : m.origin ≡ i

abbrev pub has_seq : ℕ → Message → Bool
has_seq seq m = seq == m.seq

-- The backlog is that of node i, which was given these messages and has asked for so many of them,
-- after these notices.
pub record IsBacklogOf (scenario : ScenarioParts) (i : ℕ) (past : List NoticeKind) (messages : List Message) (count : ℕ) (v : BacklogParts) : Type 0 where
  pub given : v.given ≡ map given_of messages
  pub are_own : AllByRecursion (IsOwnTot scenario i) messages
  pub asked : v.asked ≡ count
  pub some : count ≤ length messages
  pub room : v.room ≡ count_by (is_from i) scenario.sends
  pub own : length v.own ≡ count_by (is_from i) scenario.sends
  pub sent : (seq : ℕ) → seq < length v.own → (own_at v.own seq).sent ≡ has_own (tot_of_key (key_of seq i)) past
  pub places : (seq : ℕ) → seq < length v.own → (own_at v.own seq).place ≡ place_of (key_of seq i) past
  pub marks : (seq : ℕ) → (own_at v.own seq).asked ≡ list_any (has_seq seq) (take count messages)
  pub earlier : AllByRecursion (λ m. has_own (data_id m) past ≡ true) (take (count - 1) messages)

-- ---- the value

-- The value is that of node i after these notices, newest first. It was given these messages, and
-- has asked for so many of them.
pub record IsTotcanOf (scenario : ScenarioParts) (i : ℕ) (past : List NoticeKind) (messages : List Message) (count : ℕ) (v : TotcanParts) : Type 0 where
  pub limits : HasLimitsOf scenario i v
  pub queue : AreOpen scenario scenario.params.bound past v.queue.items
  pub acceptances : AreAcceptances scenario.params.bound past v.acceptances
  pub are_delivered : AreDelivered (delivered scenario.params i past) v.deliveries
  pub done : AreDone scenario.params i past (delivered scenario.params i past) (take v.queue.done v.queue.items)
  pub pending : IsFirstPending scenario.params i past (slice_get v.queue.items v.queue.done)
  pub backlog : IsBacklogOf scenario i past messages count v.backlog

-- The same in the turn of a notice, before what closes and what is delivered in it: the message
-- that closes now is still there.
pub record HasHeard (scenario : ScenarioParts) (i : ℕ) (notice : NoticeKind) (before : List NoticeKind)
    (messages : List Message) (count : ℕ) (v : TotcanParts) : Type 0 where
  pub limits : HasLimitsOf scenario i v
  pub queue : AreOpen scenario (scenario.params.bound + 1) (notice ∷ before) v.queue.items
  pub acceptances : AreAcceptances (scenario.params.bound + 1) (notice ∷ before) v.acceptances
  pub are_delivered : AreDelivered (delivered scenario.params i before) v.deliveries
  pub done : AreDone scenario.params i (notice ∷ before) (delivered scenario.params i before) (take v.queue.done v.queue.items)
  pub backlog : IsBacklogOf scenario i (notice ∷ before) messages count v.backlog

-- there are notices that the value stands for, and this one can come after them
pub record CanRead (v : TotcanParts) (notice : Notice) : Type 0 where
  pub scenario : ScenarioParts
  pub past : List NoticeKind
  pub messages : List Message
  pub count : ℕ
  pub stands : IsTotcanOf scenario v.node past messages count v
  pub next : IsNextNotice scenario past notice
