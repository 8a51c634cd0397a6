-- What is promised of a run. Its last definition, `IsSafe`, is the promise of a run within the
-- fault hypothesis, in five parts. They speak of the logs of correct nodes: of the sets of messages
-- and of failure signs in them, of one list, the order of TOTCAN, and of one table, that of the
-- views by their numbers.
use Rattle.std.specs.Prelude.{◌≡◌, ℕ, ◌&&◌, ◌<◌, ◌≤◌, true, Option, Some, None, List, Contains, count_by, ◌⊎◌}
use Rattle.cany_base.specs.declared.log_entry.LogEntry.{LogEntry}
use Rattle.cany_base.specs.declared.log_entry.LogEntry.TheVariants.{Deliver, Failed, View}
use Rattle.cany_base.specs.declared.message.MsgKey.{MsgKey}
use Rattle.cany_base.specs.declared.slot_note.SlotNote.{SlotNote}
use Rattle.cany_base.specs.Cycles.{cycle_of}
use Rattle.cany_base.specs.Nodes.{has}
use Rattle.cany_base.specs.Scenario.{ScenarioParts}
use Rattle.cany_model.specs.Runs.Run.{all_read}
use Rattle.cany_model.specs.Bus.State.{RunState}
use Rattle.cany_model.specs.Promises.Entries.{delivers_key, HasDelivered, HasLoggedFailure}
use Rattle.cany_model.specs.Promises.FirstSlots.{first_of_message, first_of_sign}
use Rattle.cany_model.specs.Promises.OneView.{HasOneView}
use Rattle.cany_model.specs.Promises.Order.{HasOneOrder}
use Rattle.cany_model.specs.Promises.Settled.{IsCorrect, IsCorrectFrom, is_settled, nobody_waits_with_sign}
use Rattle.cany_model.specs.Rules.Log.{log}
use Rattle.cany_model.specs.Rules.Messages.{Message, messages_of, message_key, data_frame}
use Rattle.cany_model.specs.Rules.Knowledge.{FailureSign}

-- ---- no message twice or unsent

-- the data frame of the message was carried, with its origin among the senders, in a slot not after
-- this one
pub record WasSent (trace : List SlotNote) (m : Message) (slot : ℕ) : Type 0 where
  pub note : SlotNote
  pub stands : Contains trace note
  pub by_then : note.slot ≤ slot
  pub frame : note.frame ≡ Some (data_frame m)
  pub sender : has note.senders m.origin ≡ true

-- what an entry delivers is a message of the scenario that was sent, and a failure that it tells of
-- is that of a node of the bus, in a cycle that had begun by then. The number of a view is that of
-- the cycle of its slot.
abbrev pub IsSound : ScenarioParts → RunState → LogEntry → Type 0
IsSound scenario s (Deliver slot service msg payload) =
    (m : Message) × Contains (messages_of scenario.sends) m × (message_key m ≡ msg) × (m.service ≡ service)
    × (m.payload ≡ payload) × WasSent s.trace m slot
IsSound scenario s (Failed slot node cycle) = (node < scenario.params.nodes) × (cycle ≤ cycle_of scenario.params slot)
IsSound scenario s (View slot number members) = number ≡ cycle_of scenario.params slot

-- no message twice or unsent in the log of a correct node, and no failure of a node that is not
-- there
pub record IsIntegral (scenario : ScenarioParts) (s : RunState) : Type 0 where
  pub once : (i : ℕ) → IsCorrect scenario s i → (key : MsgKey) → count_by (delivers_key key) (log scenario s i) ≤ 1
  pub sent : (i : ℕ) → IsCorrect scenario s i → (entry : LogEntry) → Contains (log scenario s i) entry → IsSound scenario s entry

-- ---- a settled message at all or at none

-- Of a settled message: if a node that takes part since the first slot that carried its data frame
-- is its origin or has delivered it, it stands in the log of every such node. One whose data frame
-- was never carried stands in the log of no correct node, and is not settled where its origin takes
-- part since the scripted slot.
abbrev pub IsAgreedFrom : ScenarioParts → RunState → Message → Option ℕ → Type 0
IsAgreedFrom scenario s m (Some first) =
    is_settled scenario s m ≡ true
    → (i : ℕ) → IsCorrectFrom scenario s first i → (i ≡ m.origin) ⊎ HasDelivered scenario s i m
    → (j : ℕ) → IsCorrectFrom scenario s first j → HasDelivered scenario s j m
IsAgreedFrom scenario s m None =
    ((i : ℕ) → IsCorrect scenario s i → HasDelivered scenario s i m → ⊥)
    × (is_settled scenario s m ≡ true → IsCorrectFrom scenario s m.slot m.origin → ⊥)

abbrev pub IsAgreedOn : ScenarioParts → RunState → Message → Type 0
IsAgreedOn scenario s m = IsAgreedFrom scenario s m (first_of_message m s.trace)

-- ---- a failure sign at all or at none

-- Of a sign whose frame nobody waits with, where every running node has read every notice: it
-- stands in the logs of all nodes that take part since the first slot that carried the frame, or of
-- none. One whose frame was never carried, and that nobody waits with, stands in the log of no
-- correct node.
abbrev pub IsSignAgreedFrom : ScenarioParts → RunState → FailureSign → Option ℕ → Type 0
IsSignAgreedFrom scenario s sign (Some first) =
    (nobody_waits_with_sign s sign && all_read s) ≡ true
    → (i : ℕ) → IsCorrectFrom scenario s first i → HasLoggedFailure scenario s i sign
    → (j : ℕ) → IsCorrectFrom scenario s first j → HasLoggedFailure scenario s j sign
IsSignAgreedFrom scenario s sign None =
    nobody_waits_with_sign s sign ≡ true → (i : ℕ) → IsCorrect scenario s i → HasLoggedFailure scenario s i sign → ⊥

abbrev pub IsSignAgreedOn : ScenarioParts → RunState → FailureSign → Type 0
IsSignAgreedOn scenario s sign = IsSignAgreedFrom scenario s sign (first_of_sign sign s.trace)

-- ---- the promise

pub record IsSafe (scenario : ScenarioParts) (s : RunState) : Type 0 where
  -- no message twice or unsent at a correct node
  pub integrity : IsIntegral scenario s
  -- a settled message that one correct node sent or delivered was delivered by all
  pub agreement : (m : Message) → Contains (messages_of scenario.sends) m → IsAgreedOn scenario s m
  -- TOTCAN follows one order
  pub order : HasOneOrder scenario s
  -- correct nodes that hold a view of one number hold the same members
  pub views : HasOneView scenario s
  -- a sign that a node failed stands in the logs of all correct nodes or of none
  pub signs : (sign : FailureSign) → IsSignAgreedOn scenario s sign
