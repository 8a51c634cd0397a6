-- What a RELCAN value stands for.
use Rattle.std.specs.Prelude.{◌≡◌, ℕ, ◌+◌, ◌<◌, ◌≤◌, ◌==◌, ◌||◌, min, not, Bool, true, false, List, [], ◌∷◌, ◌++◌, length}
use Rattle.cany_base.specs.declared.class.Class.TheVariants as class
use Rattle.cany_base.specs.declared.format.Format.{Format}
use Rattle.cany_base.specs.declared.message.Service.TheVariants as service
use Rattle.cany_base.specs.declared.notice.Notice.{Notice}
use Rattle.cany_base.specs.declared.notice.NoticeKind.{NoticeKind}
use Rattle.cany_base.specs.declared.notice.NoticeKind.TheVariants.{Idle, Got, Sent, Bad}
use Rattle.cany_base.specs.Frame.{FrameParts}
use Rattle.cany_base.specs.Scenario.{ScenarioParts, IsLegalScenario}
use Rattle.cany_base.specs.Limits.{most_nodes}
use Rattle.cany_diffuse.specs.Eager.{EagerParts, is_among, is_held, is_there, spare_of}
use Rattle.cany_message.specs.Numbers.{message_number, message_numbers}
use Rattle.cany_message.specs.Table.{IsTableOf, frame_identity}
use Rattle.cany_model.specs.Bus.Frames.{Identity, identity_of, same_class}
use Rattle.cany_model.specs.Rules.Notices.{IsNextNotice, NamesMessage}
use Rattle.cany_model.specs.Rules.Relcan.{fell_back, has_copy, relcan_effects}
use Rattle.cany_model.specs.Rules.Rooms.{sends_by}
use Rattle.cany_relcan.specs.Timers.{TimersParts, started_by, started_since}

-- the node, the format of identifiers, how long a timer runs, the copies of data frames and of
-- confirmations, the timers that run, and the messages for which the node fell back
pub record RelcanParts : Type 0 where
  pub node : ℕ
  pub format : Format
  pub confirm : ℕ
  pub copies : EagerParts
  pub confirms : EagerParts
  pub timers : TimersParts
  pub fallen : EagerParts

-- the data frame of the message of an origin
abbrev pub data_identity : (seq origin : ℕ) → Identity
data_identity seq origin = frame_identity class.Rel seq origin

-- the node's own transmissions are noted of the data frames of its own messages, and of no
-- confirmations
abbrev pub of_own : (i origin : ℕ) → Bool
of_own i origin = origin == i

abbrev pub of_none : ℕ → Bool
of_none origin = false

-- The value is that of a node of the scenario. Its identifiers are those of the scenario's format.
-- At once run no more timers than there are messages of RELCAN, and than may start in the slots of
-- one timer, one in each.
pub record HasLimitsOf (scenario : ScenarioParts) (i : ℕ) (v : RelcanParts) : Type 0 where
  pub legal : IsLegalScenario scenario
  pub node : v.node ≡ i
  pub format : v.format ≡ scenario.params.format
  pub confirm : v.confirm ≡ scenario.params.confirm
  pub timers_room : v.timers.room ≡ min (sends_by scenario service.Rel) (scenario.params.confirm + 1)
  pub timers_few : spare_of v.copies + length v.timers.running ≤ sends_by scenario service.Rel

-- The tables of data frames and of confirmations have what stands in these notices. The data frames
-- of which a copy was read are those of messages of RELCAN.
pub record AreTablesOf (scenario : ScenarioParts) (i : ℕ) (past : List NoticeKind) (copies confirms : EagerParts) : Type 0 where
  pub data_frames : IsTableOf scenario service.Rel class.Rel (of_own i) past copies
  pub confirmations : IsTableOf scenario service.Rel class.Confirm of_none past confirms
  pub named : (f : FrameParts) → f.class ≡ class.Rel → has_copy (identity_of f) past ≡ true → NamesMessage scenario service.Rel f

-- The messages for which the node fell back are held. All that is there is of messages of the
-- scenario by RELCAN, and there is room for each of them.
pub record AreMarksOf (scenario : ScenarioParts) (i : ℕ) (past : List NoticeKind) (fallen : EagerParts) : Type 0 where
  pub room : fallen.room ≡ sends_by scenario service.Rel
  pub held : (seq origin : ℕ) → origin < most_nodes → is_held fallen (message_number seq origin) ≡ fell_back scenario.params.confirm i (data_identity seq origin) past
  pub messages : (number : ℕ) → is_there fallen number ≡ true → is_among number (message_numbers scenario service.Rel) ≡ true

-- The value is that of node i after these notices, newest first. The timers that run are those that
-- the newest `confirm` notices started.
pub record IsRelcanOf (scenario : ScenarioParts) (i : ℕ) (past : List NoticeKind) (v : RelcanParts) : Type 0 where
  pub limits : HasLimitsOf scenario i v
  pub tables : AreTablesOf scenario i past v.copies v.confirms
  pub timers : v.timers.running ≡ started_since i scenario.params.confirm past
  pub fallen : AreMarksOf scenario i past v.fallen

-- The same in the turn of a notice, before the timer that runs out in it.
pub record HasRead (scenario : ScenarioParts) (i : ℕ) (notice : NoticeKind) (past : List NoticeKind) (v : RelcanParts) : Type 0 where
  pub limits : HasLimitsOf scenario i v
  pub tables : AreTablesOf scenario i (notice ∷ past) v.copies v.confirms
  pub timers : v.timers.running ≡ started_since i scenario.params.confirm past ++ started_by i notice past
  pub fallen : AreMarksOf scenario i past v.fallen

-- whether the notice brings no frame of RELCAN
abbrev pub brings_no_relcan : NoticeKind → Bool
brings_no_relcan Idle = true
brings_no_relcan (Got f) = not (same_class f.class class.Rel || same_class f.class class.Confirm)
brings_no_relcan (Sent f) = not (same_class f.class class.Rel || same_class f.class class.Confirm)
brings_no_relcan Bad = true

-- This notice leads to nothing: the value as it is stands for the notices and this one too.
pub record Rests (scenario : ScenarioParts) (i : ℕ) (notice : NoticeKind) (past : List NoticeKind) (v : RelcanParts) : Type 0 where
  pub stands : IsRelcanOf scenario i (notice ∷ past) v
  pub effects : relcan_effects scenario i (notice ∷ past) ≡ []

-- there are notices that the value stands for, and this one can come after them
pub record CanRead (v : RelcanParts) (notice : Notice) : Type 0 where
  pub scenario : ScenarioParts
  pub past : List NoticeKind
  pub stands : IsRelcanOf scenario v.node past v
  pub next : IsNextNotice scenario past notice
