-- The messages of a scenario: one for each scripted send, and the frames of a message.
use Rattle.std.specs.Prelude.{◌≡◌, ℕ, Bool, ◌==◌, List, [], ◌∷◌, count_by, Contains}
use Rattle.cany_base.specs.declared.class.Class.TheVariants.{Accept, Confirm}
use Rattle.cany_base.specs.declared.message.SendAsk.{SendAsk}
use Rattle.cany_base.specs.declared.message.Service.{Service}
use Rattle.cany_base.specs.declared.message.MsgKey.{MsgKey}
use Rattle.cany_base.specs.Frame.{FrameParts, data_class}
use Rattle.cany_base.specs.Scenario.{ScenarioParts}
use Rattle.cany_model.specs.Bus.Frames.{Identity, same_class}

-- a message, and the slot in whose turn its origin is to send it
pub record Message : Type 0 where
  pub slot : ℕ
  pub origin : ℕ
  pub seq : ℕ
  pub service : Service
  pub payload : List ℕ

abbrev pub is_from : ℕ → SendAsk → Bool
is_from node send = send.node == node

-- the message of a send that comes after these others: its sequence number counts those of the same
-- origin
abbrev pub message_of : List SendAsk → SendAsk → Message
message_of earlier send = record {
  slot = send.slot;
  origin = send.node;
  seq = count_by (is_from send.node) earlier;
  service = send.service;
  payload = send.payload;
}

unfoldable pub messages_after : List SendAsk → List SendAsk → List Message
messages_after earlier [] = []
messages_after earlier (send ∷ sends) = message_of earlier send ∷ messages_after (send ∷ earlier) sends

-- in file order
abbrev pub messages_of : List SendAsk → List Message
messages_of sends = messages_after [] sends

abbrev pub message_key : Message → MsgKey
message_key m = record { origin = m.origin; seq = m.seq }

-- the frame that carries a message
abbrev pub data_frame : Message → FrameParts
data_frame m = record { class = data_class m.service; number = m.seq; node = m.origin; inc = 0; payload = m.payload }

-- ---- the frames of a message

-- whether the two are the same service
unfoldable pub is_service : Service → Service → Bool
is_service a b = same_class (data_class a) (data_class b)

-- what names the frame of a message of this service and key: that of its data, and those that
-- confirm and accept it
abbrev pub data_of : Service → MsgKey → Identity
data_of by key = record { class = data_class by; number = key.seq; node = key.origin }

abbrev pub confirm_of_key : MsgKey → Identity
confirm_of_key key = record { class = Confirm; number = key.seq; node = key.origin }

abbrev pub accept_of_key : MsgKey → Identity
accept_of_key key = record { class = Accept; number = key.seq; node = key.origin }

abbrev pub frames_named : Service → MsgKey → List Identity
frames_named by key = data_of by key ∷ confirm_of_key key ∷ accept_of_key key ∷ []

abbrev pub data_id : Message → Identity
data_id m = data_of m.service (message_key m)

abbrev pub frames_of : Message → List Identity
frames_of m = frames_named m.service (message_key m)

-- the identity is that of a frame of a message of this service
pub record IsOfMessage (scenario : ScenarioParts) (by : Service) (x : Identity) : Type 0 where
  pub message : Message
  pub stands : Contains (messages_of scenario.sends) message
  pub sent_by : message.service ≡ by
  pub number : message.seq ≡ x.number
  pub origin : message.origin ≡ x.node
