-- Integrity: no entry of the log of a correct node is wrong.
use Rattle.std.specs.Prelude.{ℕ, ◌==◌, ◌&&◌, ◌||◌, Bool, false, not, nat_le, nat_lt, if◌then◌else◌, List, [], ◌∷◌, ◌++◌, length, Option, Some, None, option_map}
use Rattle.std.specs.List.{list_any}
use Rattle.std.specs.Option.{option_map_or, option_or}
use Rattle.cany_base.specs.declared.log_entry.LogEntry.{LogEntry}
use Rattle.cany_base.specs.declared.log_entry.LogEntry.TheVariants.{Deliver, Failed, View}
use Rattle.cany_base.specs.Cycles.{cycle_of}
use Rattle.cany_model.specs.Promises.Entries.{delivers_key}
use Rattle.cany_check.specs.declared.account.record.MessageRecord.{MessageRecord}
use Rattle.cany_check.specs.declared.deciders.findings.EntryAt.{EntryAt}
use Rattle.cany_check.specs.Accounts.Account.{AccountParts, LogParts}
use Rattle.cany_check.specs.Accounts.Words.{correct, entry_slot, is_delivery}

-- whether the message is what the entry delivers, and was sent by then
abbrev pub was_sent_by_then : LogEntry → MessageRecord → Bool
was_sent_by_then entry m = is_delivery m entry && option_map_or (λ slot. nat_le slot (entry_slot entry)) m.sent false

-- Whether the entry, after these earlier ones of its log, is wrong: a delivery of a key that one of
-- them delivers, or of what no message is that was sent by then; a failure of a node that is not
-- there, or of a cycle that had not begun; a view with a number that is not the cycle of its slot.
abbrev pub is_wrong : AccountParts → List LogEntry → LogEntry → Bool
is_wrong a earlier (Deliver slot service msg payload) =
    list_any (delivers_key msg) earlier || not (list_any (was_sent_by_then (Deliver slot service msg payload)) a.messages)
is_wrong a earlier (Failed slot node cycle) = nat_le a.params.nodes node || nat_lt (cycle_of a.params slot) cycle
is_wrong a earlier (View slot number members) = not (number == cycle_of a.params slot)

-- the place of the first wrong entry of a log, after these earlier ones
unfoldable pub first_wrong : AccountParts → List LogEntry → List LogEntry → Option ℕ
first_wrong a earlier [] = None
first_wrong a earlier (entry ∷ entries) =
    if is_wrong a earlier entry then Some (length earlier) else first_wrong a (earlier ++ entry ∷ []) entries

abbrev pub wrong_in : AccountParts → LogParts → Option EntryAt
wrong_in a log = option_map (λ place. record { node = log.node; place = place }) (first_wrong a [] log.entries)

-- the first wrong entry of some logs, one after another
unfoldable pub first_wrong_of : AccountParts → List LogParts → Option EntryAt
first_wrong_of a [] = None
first_wrong_of a (log ∷ logs) = option_or (wrong_in a log) (first_wrong_of a logs)

-- that of the logs of correct nodes, by ascending node and then place
abbrev pub wrong_entry : AccountParts → Option EntryAt
wrong_entry a = first_wrong_of a (correct a)
