-- The lines of a verdict after its head: witnesses of what is broken, messages, failure signs, and
-- entries that did nothing.
use Rattle.std.specs.Prelude.{ℕ, ◌+◌, Bool, if◌then◌else◌, List, [], ◌∷◌, ◌++◌, Option, Some, None, codes, decimal}
use Rattle.std.specs.Option.{option_map_or}
use Rattle.cany_base.specs.declared.message.Service.{Service}
use Rattle.cany_base.specs.declared.message.Service.TheVariants.{Tot}
use Rattle.cany_base.specs.Nodes.{is_nobody}
use Rattle.cany_base.specs.Params.{Parameters}
use Rattle.cany_model.specs.Rules.Messages.{is_service}
use Rattle.cany_text.specs.ReportLines.{line_of, set_text}
use Rattle.cany_text.specs.TextNames.{service_name}
use Rattle.cany_log.specs.Fields.{number_if_any, set_if_any}
use Rattle.cany_check.specs.declared.deciders.findings.Accusation.{Accusation}
use Rattle.cany_check.specs.declared.deciders.findings.Delivery.{Delivery}
use Rattle.cany_check.specs.declared.deciders.findings.EntryAt.{EntryAt}
use Rattle.cany_check.specs.declared.deciders.findings.Fate.{Fate}
use Rattle.cany_check.specs.declared.deciders.findings.Fate.TheVariants.{All, Nobody, Apart, Open}
use Rattle.cany_check.specs.declared.deciders.findings.Parting.{Parting}
use Rattle.cany_check.specs.declared.deciders.findings.Told.{Told}
use Rattle.cany_check.specs.declared.deciders.findings.ViewParting.{ViewParting}
use Rattle.cany_check.specs.declared.account.record.MessageRecord.{MessageRecord}
use Rattle.cany_check.specs.declared.account.record.SignRecord.{SignRecord}
use Rattle.cany_check.specs.declared.account.record.FirstAndLast.{FirstAndLast}
use Rattle.cany_check.specs.declared.unused_entries.unused_entry.NoAsk.{NoAsk}
use Rattle.cany_check.specs.declared.unused_entries.unused_entry.NoAsk.TheVariants.{From, Stopped, NeverCarried}
use Rattle.cany_check.specs.declared.unused_entries.unused_entry.NoFault.{NoFault}
use Rattle.cany_check.specs.declared.unused_entries.unused_entry.NoFault.TheVariants.{Attempts, Ruled, Idle, RejectsNobody, StopsNobody}
use Rattle.cany_check.specs.declared.unused_entries.unused_entry.Unused.{Unused}
use Rattle.cany_check.specs.declared.unused_entries.unused_entry.UnusedEntry.{UnusedEntry}
use Rattle.cany_check.specs.declared.unused_entries.unused_entry.UnusedEntry.TheVariants.{Send, Fault, Join, Leave, Restart}

-- ---- fields that stand there only sometimes

abbrev pub text_if : Bool → List ℕ → List (List ℕ)
text_if test text = if test then text ∷ [] else []

-- the word and the first and the last slot, where there are any
abbrev pub slots_if_any : List ℕ → Option FirstAndLast → List (List ℕ)
slots_if_any word None = []
slots_if_any word (Some slots) = word ∷ decimal slots.first ∷ decimal slots.last ∷ []

-- the word, and either these slots or a dash
abbrev pub slots_or_dash : List ℕ → Option FirstAndLast → List (List ℕ)
slots_or_dash word None = word ∷ codes "-" ∷ []
slots_or_dash word (Some slots) = word ∷ decimal slots.first ∷ decimal slots.last ∷ []

-- ---- messages

-- how long the protocol of the service waits, at most, between a copy of a message and a closing of
-- it by TOTCAN, or its timer by RELCAN; nobody has a message of EDCAN ahead
abbrev pub wait : Parameters → Service → ℕ
wait p by = if is_service by Tot then p.bound else p.confirm

-- the last slot that carried its data frame, or else the scripted one
abbrev pub last_copy : MessageRecord → ℕ
last_copy m = option_map_or (λ slots. slots.last) m.carried m.slot

-- the last slot in which a timer or a closing that is ahead can be due, if the data frame is not
-- carried again
abbrev pub due_if_ahead : Parameters → MessageRecord → Option ℕ
due_if_ahead p m = if is_nobody m.ahead then None else Some (last_copy m + wait p m.service)

-- and why it is open
abbrev pub open_fields : Parameters → MessageRecord → List (List ℕ)
open_fields p m =
    codes "open" ∷ text_if m.queued (codes "queued") ++ set_if_any (codes "waits") m.waits
    ++ set_if_any (codes "ahead") m.ahead ++ number_if_any (codes "by") (due_if_ahead p m)

abbrev pub apart_fields : Told → List (List ℕ)
apart_fields told = codes "apart has" ∷ set_text told.has ∷ codes "lacks" ∷ set_text told.lacks ∷ []

abbrev pub message_fate_fields : Parameters → MessageRecord → Told → Fate → List (List ℕ)
message_fate_fields p m told All = codes "all" ∷ []
message_fate_fields p m told Nobody = codes "none had" ∷ set_text told.had ∷ []
message_fate_fields p m told Apart = apart_fields told
message_fate_fields p m told Open = open_fields p m

-- the slots are those that carried its data frame, and those in which the nodes that have it
-- delivered it
unfoldable pub message_line : Parameters → MessageRecord → Told → List ℕ
message_line p m told = line_of (
    codes "message" ∷ service_name m.service ∷ decimal m.key.origin ∷ decimal m.key.seq ∷ codes "slot" ∷ decimal m.slot
    ∷ message_fate_fields p m told told.fate ++ slots_or_dash (codes "carried") m.carried ++ slots_if_any (codes "delivered") told.slots)

-- ---- failure signs

abbrev pub sign_fate_fields : SignRecord → Told → Fate → List (List ℕ)
sign_fate_fields sign told All = codes "all" ∷ []
sign_fate_fields sign told Nobody = codes "none" ∷ []
sign_fate_fields sign told Apart = apart_fields told
sign_fate_fields sign told Open = codes "open waits" ∷ set_text sign.waits ∷ []

-- the slots are those that carried its frame, and those in which the nodes that know it came to
-- know it
unfoldable pub sign_line : SignRecord → Told → List ℕ
sign_line sign told = line_of (
    codes "sign" ∷ decimal sign.node ∷ decimal sign.cycle
    ∷ sign_fate_fields sign told told.fate ++ slots_or_dash (codes "carried") sign.carried ++ slots_if_any (codes "known") told.slots)

-- ---- witnesses

-- a wrong entry, by its place in the log
unfoldable pub entry_line : EntryAt → List ℕ
entry_line entry = line_of (codes "entry node" ∷ decimal entry.node ∷ codes "place" ∷ decimal entry.place ∷ [])

abbrev pub delivery_fields : Delivery → List (List ℕ)
delivery_fields d = codes "tot" ∷ decimal d.msg.origin ∷ decimal d.msg.seq ∷ codes "slot" ∷ decimal d.slot ∷ []

-- two nodes that part, at which place, and what the first and the second delivered there
unfoldable pub parted_line : Parting → List ℕ
parted_line p = line_of (
    codes "parted node" ∷ decimal p.first ∷ codes "node" ∷ decimal p.second ∷ codes "place" ∷ decimal p.place
    ∷ delivery_fields p.here ++ delivery_fields p.there)

-- two nodes with unequal views of one number
unfoldable pub view_line : ViewParting → List ℕ
view_line v = line_of (
    codes "view" ∷ decimal v.number ∷ codes "node" ∷ decimal v.first ∷ set_text v.members
    ∷ codes "node" ∷ decimal v.second ∷ set_text v.others ∷ [])

-- a node that was taken for failed, by whom, and when first
unfoldable pub accused_line : Accusation → List ℕ
accused_line x = line_of (codes "accused" ∷ decimal x.node ∷ codes "by" ∷ set_text x.by ∷ codes "first" ∷ decimal x.first ∷ [])

-- ---- entries of the scenario that did nothing

abbrev pub ask_fields : NoAsk → List (List ℕ)
ask_fields (From slot) = codes "from" ∷ decimal slot ∷ []
ask_fields Stopped = codes "stopped" ∷ []
ask_fields NeverCarried = codes "carried -" ∷ []

abbrev pub fault_fields : NoFault → List (List ℕ)
fault_fields (Attempts n) = codes "attempts" ∷ decimal n ∷ []
fault_fields (Ruled slot) = codes "slot" ∷ decimal slot ∷ codes "ruled" ∷ []
fault_fields (Idle slot) = codes "slot" ∷ decimal slot ∷ codes "idle" ∷ []
fault_fields (RejectsNobody slot) = codes "slot" ∷ decimal slot ∷ codes "rejects -" ∷ []
fault_fields (StopsNobody slot) = codes "slot" ∷ decimal slot ∷ codes "stops -" ∷ []

-- the array of the entry, its place there, and why it did nothing
abbrev pub unused_fields : ℕ → UnusedEntry → List (List ℕ)
unused_fields place (Send why) = codes "unused send" ∷ decimal place ∷ ask_fields why
unused_fields place (Fault why) = codes "unused fault" ∷ decimal place ∷ fault_fields why
unused_fields place (Join why) = codes "unused join" ∷ decimal place ∷ ask_fields why
unused_fields place (Leave why) = codes "unused leave" ∷ decimal place ∷ ask_fields why
unused_fields place Restart = codes "unused restart" ∷ decimal place ∷ codes "runs" ∷ []

unfoldable pub unused_line : Unused → List ℕ
unused_line u = line_of (unused_fields u.place u.entry)
