-- The records of messages and of failure signs while an account is made: what the slots that were
-- gone over tell of them.
use Rattle.std.specs.Prelude.{◌<◌, ℕ, ◌&&◌, Bool, if◌then◌else◌, List, [], ◌∷◌, Option, Some, None}
use Rattle.std.specs.List.{flat_map}
use Rattle.std.specs.Option.{option_or}
use Rattle.cany_base.specs.declared.log_entry.LogEntry.{LogEntry}
use Rattle.cany_base.specs.declared.log_entry.LogEntry.TheVariants.{Deliver, Failed, View}
use Rattle.cany_base.specs.declared.slot_note.SlotNote.{SlotNote}
use Rattle.cany_base.specs.Frame.{FrameParts, data_class}
use Rattle.cany_base.specs.Nodes.{has}
use Rattle.cany_model.specs.Bus.Frames.{Identity, is_of, same_frame}
use Rattle.cany_model.specs.Bus.Slot.{carried}
use Rattle.cany_model.specs.Bus.State.{RunState}
use Rattle.cany_model.specs.Rules.Knowledge.{FailureSign, fda_of}
use Rattle.cany_model.specs.Rules.Messages.{data_of}
use Rattle.cany_world.specs.Settled.{waiting_nodes}
use Rattle.cany_check.specs.declared.account.message_slots.MessageSlots.{MessageSlots}
use Rattle.cany_check.specs.declared.account.record.MessageRecord.{MessageRecord}
use Rattle.cany_check.specs.declared.account.record.SignRecord.{SignRecord}
use Rattle.cany_check.specs.declared.account.record.FirstAndLast.{FirstAndLast}
use Rattle.cany_check.specs.Accounts.Account.{LogParts, first_where, running, sign_in, slots_of}

-- these slots, and a later one
abbrev pub with_last : Option FirstAndLast → ℕ → Option FirstAndLast
with_last None slot = Some (record { first = slot; last = slot })
with_last (Some slots) slot = Some (record { first = slots.first; last = slot })

-- ---- messages

-- what names the data frame of a message, and the frame
abbrev pub record_id : MessageRecord → Identity
record_id m = data_of m.service m.key

abbrev pub record_frame : MessageRecord → FrameParts
record_frame m = record { class = data_class m.service; number = m.key.seq; node = m.key.origin; inc = 0; payload = m.payload }

-- whether the slot carried the frame, payload included, with the origin among the senders
abbrev pub sends_record : MessageRecord → SlotNote → Bool
sends_record m note = carried (same_frame (record_frame m)) note && has note.senders m.key.origin

-- the slots of a message, where these ran, newest first
abbrev pub message_slots : List SlotNote → MessageRecord → MessageSlots
message_slots trace m = record { sent = first_where (sends_record m) trace; carried = slots_of (record_id m) trace }

-- the same after one more slot
abbrev pub slots_after : MessageRecord → SlotNote → MessageSlots → MessageSlots
slots_after m note slots = record {
  sent = option_or slots.sent (if sends_record m note then Some note.slot else None);
  carried = if carried (is_of (record_id m)) note then with_last slots.carried note.slot else slots.carried;
}

-- the record of a message with these slots
abbrev pub with_slots : MessageRecord → MessageSlots → MessageRecord
with_slots m slots = record m { sent = slots.sent; carried = slots.carried }

-- ---- failure signs

-- those that these entries tell of
abbrev pub signs_of_entries : List LogEntry → List FailureSign
signs_of_entries entries = flat_map sign_in entries

-- those that the running ones of these logs tell of
abbrev pub signs_of_logs : List LogParts → List FailureSign
signs_of_logs logs = flat_map (λ log. signs_of_entries log.entries) (running logs)

-- by what a sign stands in a table: they ascend by cycle and then node
abbrev pub sign_key : FailureSign → ℕ × ℕ
sign_key sign = (sign.cycle, sign.node)

-- the record of a sign, where these slots ran, newest first
abbrev pub sign_so_far : RunState → List SlotNote → FailureSign → SignRecord
sign_so_far s trace sign = record {
  node = sign.node;
  cycle = sign.cycle;
  carried = slots_of (fda_of sign) trace;
  waits = waiting_nodes (fda_of sign ∷ []) s;
}

-- as a table has it
abbrev pub sign_entry : RunState → List SlotNote → FailureSign → (ℕ × ℕ) × SignRecord
sign_entry s trace sign = (sign_key sign, sign_so_far s trace sign)

-- the entry tells of the failure of a node of so many, if it tells of one
abbrev pub TellsWithin : ℕ → LogEntry → Type 0
TellsWithin nodes (Deliver slot service msg payload) = Unit {0}
TellsWithin nodes (Failed slot node cycle) = node < nodes
TellsWithin nodes (View slot number members) = Unit {0}
