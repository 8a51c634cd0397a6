-- What an entry of a log says: of a message, or of a sign that a node failed.
use Rattle.std.specs.Prelude.{◌≡◌, ◌==◌, ◌&&◌, ℕ, Bool, false, Contains}
use Rattle.cany_base.specs.declared.log_entry.LogEntry.{LogEntry}
use Rattle.cany_base.specs.declared.log_entry.LogEntry.TheVariants.{Deliver, Failed, View}
use Rattle.cany_base.specs.declared.message.MsgKey.{MsgKey}
use Rattle.cany_base.specs.Scenario.{ScenarioParts}
use Rattle.cany_model.specs.Bus.State.{RunState}
use Rattle.cany_model.specs.Rules.Log.{log}
use Rattle.cany_model.specs.Rules.Messages.{Message, message_key}
use Rattle.cany_model.specs.Rules.Knowledge.{FailureSign}

abbrev pub delivers_key : MsgKey → LogEntry → Bool
delivers_key key (Deliver slot service msg payload) = msg.origin == key.origin && msg.seq == key.seq
delivers_key key (Failed slot node cycle) = false
delivers_key key (View slot number members) = false

-- the entry delivers the message
abbrev pub is_delivery_of : Message → LogEntry → Type 0
is_delivery_of m (Deliver slot service msg payload) = (message_key m ≡ msg) × (m.service ≡ service) × (m.payload ≡ payload)
is_delivery_of m (Failed slot node cycle) = ⊥
is_delivery_of m (View slot number members) = ⊥

-- so does one of the log of node i
pub record HasDelivered (scenario : ScenarioParts) (s : RunState) (i : ℕ) (m : Message) : Type 0 where
  pub entry : LogEntry
  pub stands : Contains (log scenario s i) entry
  pub delivers : is_delivery_of m entry

-- the entry is that of the sign
abbrev pub tells_of : FailureSign → LogEntry → Type 0
tells_of sign (Deliver slot service msg payload) = ⊥
tells_of sign (Failed slot node cycle) = (node ≡ sign.node) × (cycle ≡ sign.cycle)
tells_of sign (View slot number members) = ⊥

pub record HasLoggedFailure (scenario : ScenarioParts) (s : RunState) (i : ℕ) (sign : FailureSign) : Type 0 where
  pub entry : LogEntry
  pub stands : Contains (log scenario s i) entry
  pub tells : tells_of sign entry
