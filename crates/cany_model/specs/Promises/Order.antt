-- The one order of TOTCAN.
use Rattle.std.specs.Prelude.{◌≡◌, ℕ, ◌++◌, ◌&&◌, Bool, true, nat_le, if◌then◌else◌, List, [], ◌∷◌, Option, Some, None, Contains}
use Rattle.std.specs.List.{flat_map, list_any, range_with_len}
use Rattle.cany_base.specs.declared.class.Class.TheVariants as class
use Rattle.cany_base.specs.declared.log_entry.LogEntry.{LogEntry}
use Rattle.cany_base.specs.declared.log_entry.LogEntry.TheVariants.{Deliver, Failed, View}
use Rattle.cany_base.specs.declared.message.MsgKey.{MsgKey}
use Rattle.cany_base.specs.declared.message.Service.TheVariants.{Tot}
use Rattle.cany_base.specs.declared.slot_note.SlotNote.{SlotNote}
use Rattle.cany_base.specs.Frame.{FrameParts}
use Rattle.cany_base.specs.Scenario.{ScenarioParts}
use Rattle.cany_model.specs.Bus.Frames.{same_class}
use Rattle.cany_model.specs.Bus.State.{RunState, node_at, runs}
use Rattle.cany_model.specs.Bus.History.{history}
use Rattle.cany_model.specs.Promises.Entries.{HasDelivered}
use Rattle.cany_model.specs.Promises.Settled.{IsCorrect, is_settled}
use Rattle.cany_model.specs.Bus.Slot.{is_clean}
use Rattle.cany_model.specs.Rules.Log.{log}
use Rattle.cany_model.specs.Rules.Messages.{Message, is_service, message_key, messages_of}
use Rattle.cany_model.specs.Rules.Totcan.{message_in, is_accepted}

-- a message with its payload, as it is delivered
pub record Content : Type 0 where
  pub msg : MsgKey
  pub payload : List ℕ

-- whether node i has accepted the message by now, in its present incarnation
abbrev pub has_accepted : ScenarioParts → RunState → MsgKey → ℕ → Bool
has_accepted scenario s key i = is_accepted scenario.params.bound i key (history i s)

-- whether a running node has accepted the message
abbrev pub is_accepted_by_some : ScenarioParts → RunState → MsgKey → Bool
is_accepted_by_some scenario s key =
    list_any (λ i. runs (node_at s.nodes i) && has_accepted scenario s key i) (range_with_len 0 scenario.params.nodes)

-- the message whose data frame the slot carried Clean, if that is so and it passes the test
abbrev pub ordered_in : (MsgKey → Bool) → SlotNote → Option FrameParts → List Content
ordered_in test note None = []
ordered_in test note (Some f) =
    if same_class f.class class.Tot && is_clean note.verdict && test (message_in f) then record { msg = message_in f; payload = f.payload } ∷ [] else []

-- of slots newest first those from this one on, in the order of the slots
unfoldable pub order_by : (MsgKey → Bool) → ℕ → List SlotNote → List Content
order_by test from [] = []
order_by test from (note ∷ before) =
    order_by test from before ++ (if nat_le from note.slot then ordered_in test note note.frame else [])

-- The messages that a running node has accepted, in the order of the slots in which their data
-- frames were carried Clean: of the slots from this one on. The order of the run is that from slot
-- 0 on.
abbrev pub order : ScenarioParts → RunState → ℕ → List Content
order scenario s from = order_by (is_accepted_by_some scenario s) from s.trace

-- what an entry delivers by TOTCAN
abbrev pub tot_content : LogEntry → List Content
tot_content (Deliver slot service msg payload) = if is_service service Tot then record { msg = msg; payload = payload } ∷ [] else []
tot_content (Failed slot node cycle) = []
tot_content (View slot number members) = []

-- what a log delivers by TOTCAN, in its order
abbrev pub tot_deliveries : List LogEntry → List Content
tot_deliveries entries = flat_map tot_content entries

abbrev pub content_of : Message → Content
content_of m = record { msg = message_key m; payload = m.payload }

-- What node i has delivered by TOTCAN is a prefix of the order of the slots in which it takes part,
-- and has each settled message of it.
pub record FollowsOrder (scenario : ScenarioParts) (s : RunState) (i : ℕ) : Type 0 where
  pub rest : List Content
  pub prefix : order scenario s (node_at s.nodes i).present.from ≡ tot_deliveries (log scenario s i) ++ rest
  pub settled : (m : Message) → Contains (messages_of scenario.sends) m → m.service ≡ Tot → is_settled scenario s m ≡ true
      → Contains (order scenario s (node_at s.nodes i).present.from) (content_of m) → HasDelivered scenario s i m

-- every correct node follows the one order
abbrev pub HasOneOrder : ScenarioParts → RunState → Type 0
HasOneOrder scenario s = (i : ℕ) → IsCorrect scenario s i → FollowsOrder scenario s i
