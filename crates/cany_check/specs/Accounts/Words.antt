-- What is said of the nodes, the messages and the signs of an account.
use Rattle.std.specs.Prelude.{ℕ, ◌==◌, ◌&&◌, Bool, true, false, not, nat_le, List, filter}
use Rattle.std.specs.List.{list_any}
use Rattle.std.specs.Option.{option_map_or}
use Rattle.std.specs.Str.{bytes_eq}
use Rattle.cany_base.specs.declared.log_entry.LogEntry.{LogEntry}
use Rattle.cany_base.specs.declared.log_entry.LogEntry.TheVariants.{Deliver, Failed, View}
use Rattle.cany_base.specs.declared.message.MsgKey.{MsgKey}
use Rattle.cany_base.specs.Nodes.{Nodes, those_where, is_nobody}
use Rattle.cany_model.specs.Rules.Messages.{is_service}
use Rattle.cany_check.specs.declared.account.record.MessageRecord.{MessageRecord}
use Rattle.cany_check.specs.declared.account.record.SignRecord.{SignRecord}
use Rattle.cany_check.specs.Accounts.Account.{AccountParts, LogParts, running}

-- ---- nodes

-- the logs of the correct nodes: those of which a log runs
abbrev pub correct : AccountParts → List LogParts
correct a = running a.logs

-- whether the log is that of a node that takes part since this slot
abbrev pub takes_part : ℕ → LogParts → Bool
takes_part slot log = nat_le log.from slot

-- the nodes of these logs
unfoldable pub nodes_of : List LogParts → Nodes
nodes_of logs = those_where (λ i. list_any (λ log. log.node == i) logs)

-- ---- messages

abbrev pub same_key : MsgKey → MsgKey → Bool
same_key a b = a.origin == b.origin && a.seq == b.seq

-- not queued, and nobody waits with it or has it ahead
abbrev pub is_settled : MessageRecord → Bool
is_settled m = not m.queued && is_nobody m.waits && is_nobody m.ahead

-- the first slot that carried its data frame, or else its scripted slot
abbrev pub since : MessageRecord → ℕ
since m = option_map_or (λ slots. slots.first) m.carried m.slot

-- the correct nodes that take part since then: those that count for it
abbrev pub counting : AccountParts → MessageRecord → List LogParts
counting a m = filter (takes_part (since m)) (correct a)

-- whether the entry delivers it: its key, with its service and payload
abbrev pub is_delivery : MessageRecord → LogEntry → Bool
is_delivery m (Deliver slot service msg payload) = same_key m.key msg && is_service m.service service && bytes_eq m.payload payload
is_delivery m (Failed slot node cycle) = false
is_delivery m (View slot number members) = false

abbrev pub delivers : MessageRecord → LogParts → Bool
delivers m log = list_any (is_delivery m) log.entries

-- ---- signs

-- whether the log is that of a node that takes part since the first slot that carried its frame,
-- where there is one
abbrev pub takes_part_for : SignRecord → LogParts → Bool
takes_part_for sign log = option_map_or (λ slots. takes_part slots.first log) sign.carried true

-- the correct nodes that do: those that count for the sign
abbrev pub counting_for_sign : AccountParts → SignRecord → List LogParts
counting_for_sign a sign = filter (takes_part_for sign) (correct a)

-- whether the log is that of one of them
abbrev pub counts_for_sign : SignRecord → LogParts → Bool
counts_for_sign sign log = log.runs && takes_part_for sign log

-- whether the entry tells of the sign
abbrev pub tells_sign : SignRecord → LogEntry → Bool
tells_sign sign (Deliver slot service msg payload) = false
tells_sign sign (Failed slot node cycle) = node == sign.node && cycle == sign.cycle
tells_sign sign (View slot number members) = false

abbrev pub knows : SignRecord → LogParts → Bool
knows sign log = list_any (tells_sign sign) log.entries

-- ---- entries

abbrev pub entry_slot : LogEntry → ℕ
entry_slot (Deliver slot service msg payload) = slot
entry_slot (Failed slot node cycle) = slot
entry_slot (View slot number members) = slot
