-- When a table of the frames of a class stands for what a node has read.
use Rattle.std.specs.Prelude.{◌≡◌, ℕ, ◌<◌, ◌≤◌, ◌&&◌, Bool, true, List, length}
use Rattle.cany_base.specs.declared.class.Class.{Class}
use Rattle.cany_base.specs.declared.message.Service.{Service}
use Rattle.cany_base.specs.declared.notice.NoticeKind.{NoticeKind}
use Rattle.cany_base.specs.Scenario.{ScenarioParts}
use Rattle.cany_diffuse.specs.Eager.{EagerParts, copies_of, is_owned, is_there, is_held, is_among}
use Rattle.cany_model.specs.Bus.Frames.{Identity}
use Rattle.cany_model.specs.Bus.History.{copies, has_own}
use Rattle.cany_model.specs.Rules.Rooms.{sends_by}
use Rattle.cany_base.specs.Limits.{most_nodes}
use Rattle.cany_message.specs.Numbers.{message_number, message_numbers}

-- the frame of a class that names the message of an origin
abbrev pub frame_identity : Class → (seq origin : ℕ) → Identity
frame_identity class seq origin = record { class = class; number = seq; node = origin }

-- The table has, of each frame of the class that names a message, the copies that stand in these
-- notices, and for the origins of which the node notes it also whether its own transmission does.
-- All that is there is of messages of the scenario by the service, and there is room for each of
-- them.
pub record IsTableOf (scenario : ScenarioParts) (by : Service) (class : Class) (notes : ℕ → Bool)
    (past : List NoticeKind) (table : EagerParts) : Type 0 where
  pub omit : table.omit ≡ scenario.params.omit
  pub room : table.room ≡ sends_by scenario by
  pub copies : (seq origin : ℕ) → origin < most_nodes → copies_of table (message_number seq origin) ≡ copies (frame_identity class seq origin) past
  pub owned : (seq origin : ℕ) → origin < most_nodes → is_owned table (message_number seq origin) ≡ (notes origin && has_own (frame_identity class seq origin) past)
  pub there : (number : ℕ) → is_there table number ≡ is_held table number
  pub messages : (number : ℕ) → is_there table number ≡ true → is_among number (message_numbers scenario by) ≡ true

-- the number, and all that are there, are among numbers for which there is room
pub record CanTake (number : ℕ) (table : EagerParts) : Type 0 where
  pub numbers : List ℕ
  pub room : length numbers ≤ table.room
  pub all : (other : ℕ) → is_there table other ≡ true → is_among other numbers ≡ true
  pub this : is_among number numbers ≡ true
