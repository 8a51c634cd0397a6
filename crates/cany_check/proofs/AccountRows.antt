-- Worked rows of verdicts on accounts that no run has to have: the fate of a message and of a sign,
-- the views, the one order, who was accused, and the status.
use Rattle.std.specs.Prelude.{◌≡◌, ℕ, true, false, List, [], ◌∷◌, Option, Some, None, map, option_map, refl}
use Rattle.cany_base.specs.declared.class.Class.TheVariants as class
use Rattle.cany_base.specs.declared.log_entry.LogEntry.{LogEntry}
use Rattle.cany_base.specs.declared.log_entry.LogEntry.TheVariants.{Deliver, Failed, View}
use Rattle.cany_base.specs.declared.message.Service.{Service}
use Rattle.cany_base.specs.declared.message.Service.TheVariants.{Ed, Rel, Tot}
use Rattle.cany_base.specs.declared.rule.Verdict.TheVariants.{Clean}
use Rattle.cany_base.specs.declared.slot_note.SlotNote.{SlotNote}
use Rattle.cany_base.specs.Nodes.{has, bits_where, those_where}
use Rattle.cany_base.specs.Params.{default_parameters}
use Rattle.cany_model.specs.Bus.Frames.{same_class, same_frame, same_identity}
use Rattle.cany_model.specs.Promises.FirstSlots.{first_carried}
use Rattle.cany_model.specs.Rules.Messages.{Message, data_id, is_service}
use Rattle.cany_check.specs.declared.deciders.findings.Accusation.{Accusation}
use Rattle.cany_check.specs.declared.deciders.findings.Fate.TheVariants.{All, Nobody, Apart, Open}
use Rattle.cany_check.specs.declared.deciders.findings.Judgement.{Judgement}
use Rattle.cany_check.specs.declared.deciders.findings.Judgement.TheVariants as judged
use Rattle.cany_check.specs.declared.deciders.findings.Parting.{Parting}
use Rattle.cany_check.specs.declared.deciders.findings.Told.{Told}
use Rattle.cany_check.specs.declared.deciders.findings.ViewParting.{ViewParting}
use Rattle.cany_check.specs.declared.account.record.FirstAndLast.{FirstAndLast}
use Rattle.cany_check.specs.declared.account.record.MessageRecord.{MessageRecord}
use Rattle.cany_check.specs.declared.account.record.SignRecord.{SignRecord}
use Rattle.cany_check.specs.Accounts.Account.{AccountParts, LogParts, first_where, last_carried, sends_data, signs_told, slots_of}
use Rattle.cany_check.specs.Deciding.Accuracy.{accusations}
use Rattle.cany_check.specs.Deciding.Fates.{least_and_greatest, message_fate, message_told, sign_fate, sign_told}
use Rattle.cany_check.specs.InOrder.{ascending, put_once}
use Rattle.cany_check.specs.Deciding.Integrity.{first_wrong, first_wrong_of}
use Rattle.cany_check.specs.Deciding.OneOrder.{by_from, difference, first_parting, parting, parting_from, put_by_from}
use Rattle.cany_check.specs.Deciding.Verdict.{judgement, parts, status}
use Rattle.cany_check.specs.Deciding.Views.{view_numbers, view_partings}
use Rattle.cany_check.specs.Accounts.Words.{nodes_of}
use Rattle.cany_check.proofs.RowWords.{delivered, key, set, slots, tells}

-- ---- accounts

-- the log of a correct node that takes part since a slot, and that of one that stopped
abbrev correct_log : (node from : ℕ) → List LogEntry → LogParts
correct_log node from entries = record { node = node; from = from; runs = true; entries = entries }

abbrev ended_log : (node : ℕ) → List LogEntry → LogParts
ended_log node entries = record { node = node; from = 0; runs = false; entries = entries }

-- a settled message of a service, which was to be sent at slot 30
abbrev message : Service → (origin seq : ℕ) → Option FirstAndLast → MessageRecord
message by origin seq carried = record {
  key = key origin seq;
  service = by;
  payload = 7 ∷ [];
  slot = 30;
  sent = option_map (λ slots. slots.first) carried;
  carried = carried;
  queued = false;
  waits = set 0;
  ahead = set 0;
}

-- its entry in a log
abbrev delivery : Service → (slot origin seq : ℕ) → LogEntry
delivery by slot origin seq = Deliver slot by (key origin seq) (7 ∷ [])

abbrev sign : (node cycle : ℕ) → Option FirstAndLast → SignRecord
sign node cycle carried = record { node = node; cycle = cycle; carried = carried; waits = set 0 }

account : List MessageRecord → List LogParts → List SignRecord → AccountParts
account messages logs signs = record { params = default_parameters 3 200; messages = messages; logs = logs; signs = signs }

-- what computes a verdict is opened here, once for all rows
unfoldable words : Unit {0}
unfolding has bits_where those_where same_class is_service least_and_greatest message_fate sign_fate ascending put_once first_wrong first_wrong_of by_from difference first_parting parting_from put_by_from judgement status nodes_of account
words = tt

-- ---- the slots of a message

abbrev asked : Message
asked = record { slot = 0; origin = 0; seq = 0; service = Ed; payload = 7 ∷ [] }

-- a slot that carried its data frame, with these bytes and these senders
abbrev copy : (slot byte senders : ℕ) → SlotNote
copy slot byte senders = record {
  slot = slot;
  frame = Some (record { class = class.Ed; number = 0; node = 0; inc = 0; payload = byte ∷ [] });
  senders = set senders;
  takers = set 0;
  verdict = Clean;
  stops = set 0;
}

-- It is sent by the first slot that carried its frame with its payload, and with its origin among
-- the senders; it is carried by every slot that carried a frame of that identity.
first_sent :
    map (first_where (sends_data asked)) (
    (copy 2 7 1 ∷ copy 1 7 2 ∷ []) ∷ (copy 2 8 1 ∷ copy 1 7 2 ∷ []) ∷ (copy 3 7 3 ∷ copy 2 7 1 ∷ copy 1 8 1 ∷ []) ∷ [])
    ≡ Some 2 ∷ None ∷ Some 2 ∷ []
unfolding first_where same_frame has same_class same_identity
first_sent = refl

first_and_last_copy : slots_of (data_id asked) (copy 4 8 2 ∷ copy 2 7 1 ∷ copy 1 7 2 ∷ []) ≡ slots 1 4
unfolding first_carried last_carried same_identity same_class
first_and_last_copy = refl

-- ---- the fate of a message: EDCAN, of node 0, first carried in slot 40

abbrev sent : MessageRecord
sent = message Ed 0 0 (slots 40 50)

abbrev never_sent : MessageRecord
never_sent = message Ed 0 0 None

abbrev got : ℕ → LogEntry
got slot = delivery Ed slot 0 0

unfoldable told_of : MessageRecord → List LogParts → Told
unfolding words
told_of m logs = message_told (account (m ∷ []) logs []) m

-- all have it, in these slots; some have it, and others lack it
all_or_some :
    told_of sent (correct_log 0 0 (got 41 ∷ []) ∷ correct_log 1 0 (got 43 ∷ []) ∷ correct_log 2 0 (got 42 ∷ []) ∷ [])
    ∷ told_of sent (correct_log 0 0 (got 41 ∷ []) ∷ correct_log 1 0 [] ∷ correct_log 2 0 (got 42 ∷ []) ∷ []) ∷ []
    ≡ tells All 7 0 7 (slots 41 43) ∷ tells Apart 5 2 5 (slots 41 42) ∷ []
unfolding told_of
all_or_some = refl

-- Nobody has it. The origin counts where it is correct and takes part since the first copy or
-- before: then it had to have it.
nobody_has_it :
    told_of sent (correct_log 0 0 [] ∷ correct_log 1 0 [] ∷ correct_log 2 0 [] ∷ [])
    ∷ told_of sent (correct_log 0 40 [] ∷ correct_log 1 0 [] ∷ correct_log 2 0 [] ∷ [])
    ∷ told_of sent (correct_log 0 41 [] ∷ correct_log 1 0 [] ∷ correct_log 2 0 [] ∷ [])
    ∷ told_of sent (ended_log 0 [] ∷ correct_log 1 0 [] ∷ correct_log 2 0 [] ∷ []) ∷ []
    ≡ tells Apart 0 7 0 None ∷ tells Apart 0 7 0 None ∷ tells Nobody 0 6 0 None ∷ tells Nobody 0 6 0 None ∷ []
unfolding told_of
nobody_has_it = refl

-- A node that takes part only after the first copy does not count, whether it has the message or
-- not; nor does one that stopped, which had it all the same.
who_counts :
    told_of sent (correct_log 0 0 (got 41 ∷ []) ∷ correct_log 1 41 [] ∷ correct_log 2 41 (got 51 ∷ []) ∷ [])
    ∷ told_of sent (correct_log 0 0 (got 41 ∷ []) ∷ ended_log 1 [] ∷ ended_log 2 (got 41 ∷ []) ∷ []) ∷ []
    ≡ tells All 1 0 5 (slots 41 41) ∷ tells All 1 0 5 (slots 41 41) ∷ []
unfolding told_of
who_counts = refl

-- of a message that was never carried the scripted slot decides
never_carried :
    told_of never_sent (correct_log 0 30 [] ∷ correct_log 1 0 [] ∷ correct_log 2 31 [] ∷ [])
    ∷ told_of never_sent (correct_log 0 31 [] ∷ correct_log 1 0 [] ∷ correct_log 2 31 [] ∷ []) ∷ []
    ≡ tells Apart 0 3 0 None ∷ tells Nobody 0 2 0 None ∷ []
unfolding told_of
never_carried = refl

-- an entry is one of the message by its key, its service and its payload
other_entries :
    map (λ entry. (told_of sent (correct_log 0 0 (entry ∷ []) ∷ [])).fate) (
    got 41 ∷ delivery Rel 41 0 0 ∷ delivery Ed 41 0 1 ∷ delivery Ed 41 1 0 ∷ Deliver 41 Ed (key 0 0) (8 ∷ []) ∷ Failed 41 0 0 ∷ [])
    ≡ All ∷ Apart ∷ Apart ∷ Apart ∷ Apart ∷ Apart ∷ []
unfolding told_of
other_entries = refl

-- a message that is queued, waited with or ahead is open, also where some have it and others do not
open_messages :
    map (λ m. (told_of m (correct_log 0 0 (got 41 ∷ []) ∷ correct_log 1 0 [] ∷ [])).fate)
    (sent ∷ record sent { queued = true } ∷ record sent { waits = set 1 } ∷ record sent { ahead = set 2 } ∷ [])
    ≡ Apart ∷ Open ∷ Open ∷ Open ∷ []
unfolding told_of
open_messages = refl

-- ---- the fate of a sign: that node 2 failed in cycle 1, first carried in slot 75

abbrev carried_sign : SignRecord
carried_sign = sign 2 1 (slots 75 80)

abbrev knows : ℕ → LogEntry
knows slot = Failed slot 2 1

unfoldable told_of_sign : SignRecord → List LogParts → Told
unfolding words
told_of_sign sign logs = sign_told (account [] logs (sign ∷ [])) sign

all_or_some_know :
    told_of_sign carried_sign (correct_log 0 0 (knows 73 ∷ []) ∷ correct_log 1 0 (knows 76 ∷ []) ∷ ended_log 2 [] ∷ [])
    ∷ told_of_sign carried_sign (correct_log 0 0 (knows 73 ∷ []) ∷ correct_log 1 75 [] ∷ ended_log 2 (knows 76 ∷ []) ∷ []) ∷ []
    ≡ tells All 3 0 0 (slots 73 76) ∷ tells Apart 1 2 0 (slots 73 73) ∷ []
unfolding told_of_sign
all_or_some_know = refl

-- a node that takes part only after the first slot that carried it does not count
late_nodes_and_signs :
    told_of_sign carried_sign (correct_log 0 0 (knows 73 ∷ []) ∷ correct_log 1 76 [] ∷ ended_log 2 [] ∷ []) ∷ [] ≡ tells All 1 0 0 (slots 73 73) ∷ []
unfolding told_of_sign
late_nodes_and_signs = refl

-- one that all know and that no slot carried is apart; all correct nodes count for it
never_carried_sign :
    told_of_sign (sign 2 1 None) (correct_log 0 0 (knows 73 ∷ []) ∷ correct_log 1 150 (knows 160 ∷ []) ∷ []) ∷ [] ≡ tells Apart 3 0 0 (slots 73 160) ∷ []
unfolding told_of_sign
never_carried_sign = refl

-- one that was carried and that nobody knows is not: an entry tells of a sign by node and cycle
nobody_knows :
    told_of_sign carried_sign (correct_log 0 0 (Failed 150 2 2 ∷ Failed 74 1 1 ∷ []) ∷ correct_log 1 0 [] ∷ []) ∷ [] ≡ tells Nobody 0 3 0 None ∷ []
unfolding told_of_sign
nobody_knows = refl

-- one that is waited with is open
open_sign :
    (told_of_sign (record carried_sign { waits = set 1 }) (correct_log 0 0 (knows 73 ∷ []) ∷ correct_log 1 0 [] ∷ [])).fate ≡ Open
unfolding told_of_sign
open_sign = refl

-- the signs of the correct nodes by cycle, then node, each once
signs_of_logs :
    signs_told (
    correct_log 0 0 (Failed 150 1 2 ∷ Failed 73 2 1 ∷ []) ∷ ended_log 1 (Failed 73 1 1 ∷ []) ∷ correct_log 1 0 (Failed 73 0 1 ∷ Failed 74 2 1 ∷ []) ∷ [])
    ≡ record { node = 0; cycle = 1 } ∷ record { node = 2; cycle = 1 } ∷ record { node = 1; cycle = 2 } ∷ []
unfolding words
signs_of_logs = refl

-- ---- views

-- of which numbers there are views, and those that are apart
unfoldable views_of : List LogParts → List ℕ × List ViewParting
unfolding words
views_of logs = (view_numbers (account [] logs []), view_partings (account [] logs []))

-- Views are compared by number, wherever they stand in the logs: node 1 was not there for the
-- first.
views_of_one_number :
    views_of (correct_log 0 0 (View 108 1 (set 3) ∷ View 180 2 (set 7) ∷ []) ∷ correct_log 1 120 (View 180 2 (set 7) ∷ []) ∷ [])
    ≡ (1 ∷ 2 ∷ [], [])
unfolding views_of
views_of_one_number = refl

-- The first view of a number, and the first that has other members; node 1 has the same as node 0.
-- Views of stopped nodes are not looked at.
views_that_part :
    views_of (
    correct_log 0 0 (View 108 1 (set 15) ∷ View 180 2 (set 7) ∷ []) ∷ correct_log 1 0 (View 108 1 (set 15) ∷ View 180 2 (set 6) ∷ [])
    ∷ correct_log 2 0 (View 108 1 (set 13) ∷ View 180 2 (set 5) ∷ []) ∷ ended_log 3 (View 252 3 (set 15) ∷ []) ∷ correct_log 4 0 (View 252 3 (set 7) ∷ []) ∷ [])
    ≡ (
      1 ∷ 2 ∷ 3 ∷ [],
      record { number = 1; first = 0; members = set 15; second = 2; others = set 13 }
          ∷ record { number = 2; first = 0; members = set 7; second = 1; others = set 6 } ∷ [],
    )
unfolding views_of
views_that_part = refl

-- ---- the one order: three messages of TOTCAN

abbrev first_message : MessageRecord
first_message = message Tot 0 0 (slots 40 60)

abbrev second_message : MessageRecord
second_message = message Tot 1 0 (slots 50 50)

abbrev lost_message : MessageRecord
lost_message = message Tot 2 0 None

abbrev got_first : LogEntry
got_first = delivery Tot 70 0 0

abbrev got_second : LogEntry
got_second = delivery Tot 71 1 0

unfoldable parting_of_logs : List LogParts → Option Parting
unfolding words
parting_of_logs logs = parting (account (first_message ∷ second_message ∷ lost_message ∷ []) logs [])

-- one log may be a beginning of the other; messages of other services have no order
a_beginning_is_enough :
    parting_of_logs (correct_log 0 0 (got_first ∷ []) ∷ correct_log 1 0 (got_first ∷ got_second ∷ []) ∷ correct_log 2 0 [] ∷ [])
    ∷ parting_of_logs (correct_log 0 0 (delivery Ed 69 1 0 ∷ got_first ∷ []) ∷ correct_log 1 0 (got_first ∷ delivery Rel 72 0 0 ∷ []) ∷ []) ∷ []
    ≡ None ∷ None ∷ []
unfolding parting_of_logs
a_beginning_is_enough = refl

two_orders :
    parting_of_logs (correct_log 0 0 (got_first ∷ got_second ∷ []) ∷ correct_log 1 0 (got_second ∷ got_first ∷ []) ∷ [])
    ≡ Some (record { first = 0; second = 1; place = 0; here = delivered 0 0 70; there = delivered 1 0 71 })
unfolding parting_of_logs
two_orders = refl

-- What was first carried before a node took part is left out, and what was never carried is: node 1
-- takes part since a slot between the copies of the first message.
order_since_both_take_part :
    parting_of_logs (correct_log 0 0 (got_first ∷ got_second ∷ []) ∷ correct_log 1 41 (got_second ∷ []) ∷ [])
    ∷ parting_of_logs (correct_log 0 0 (got_first ∷ got_second ∷ []) ∷ correct_log 1 40 (got_second ∷ []) ∷ [])
    ∷ parting_of_logs (correct_log 0 0 (delivery Tot 69 2 0 ∷ got_first ∷ []) ∷ correct_log 1 0 (got_first ∷ []) ∷ []) ∷ []
    ≡ None ∷ Some (record { first = 0; second = 1; place = 0; here = delivered 0 0 70; there = delivered 1 0 71 }) ∷ None ∷ []
unfolding parting_of_logs
order_since_both_take_part = refl

-- ---- accuracy

unfoldable accusations_of : List LogParts → List Accusation
unfolding words
accusations_of logs = accusations (account [] logs [])

-- of the nodes that are correct since slot 0, by correct nodes, and in which slot first; node 0
-- takes part only since slot 1
who_is_accused :
    accusations_of (
    correct_log 0 1 (Failed 150 2 2 ∷ []) ∷ ended_log 1 (Failed 73 2 1 ∷ []) ∷ correct_log 1 40 (Failed 140 0 1 ∷ Failed 145 2 2 ∷ []) ∷ correct_log 2 0 (Failed 150 1 2 ∷ []) ∷ [])
    ≡ record { node = 2; by = set 3; first = 145 } ∷ []
unfolding accusations_of
who_is_accused = refl

-- ---- what is judged

unfoldable judged_of : List MessageRecord → List LogParts → List SignRecord → ℕ × List Judgement
unfolding words
judged_of messages logs signs = (status (account messages logs signs), map (judgement (account messages logs signs)) parts)

-- a part that is broken outweighs one that is open, and a message that is apart one that is open
ten_does_not_hide_nine :
    (let logs = correct_log 0 0 (got 41 ∷ []) ∷ correct_log 1 0 [] ∷ [] in
    let ahead : MessageRecord = record (message Rel 0 1 (slots 60 60)) { ahead = set 2 } in
    judged_of (sent ∷ ahead ∷ []) logs []
    ∷ judged_of (record sent { waits = set 1 } ∷ ahead ∷ []) logs []
    ∷ judged_of (sent ∷ record (message Ed 0 1 (slots 60 60)) { waits = set 2 } ∷ []) logs [] ∷ [])
    ≡ (9, judged.Held ∷ judged.Broken ∷ judged.Open ∷ judged.Held ∷ judged.Held ∷ judged.Held ∷ judged.Held ∷ judged.Held ∷ [])
    ∷ (10, judged.Held ∷ judged.Open ∷ judged.Open ∷ judged.Held ∷ judged.Held ∷ judged.Held ∷ judged.Held ∷ judged.Held ∷ [])
    ∷ (9, judged.Held ∷ judged.Broken ∷ judged.Held ∷ judged.Held ∷ judged.Held ∷ judged.Held ∷ judged.Held ∷ judged.Held ∷ []) ∷ []
unfolding judged_of
ten_does_not_hide_nine = refl

-- each other part is broken alone: integrity, the order, the views, the signs, accuracy
each_part_is_broken :
    map (λ (a : ℕ × List Judgement). a.0) (
    judged_of [] (correct_log 0 0 (got 41 ∷ []) ∷ []) []
    ∷ judged_of [] (correct_log 0 0 (View 108 1 (set 3) ∷ []) ∷ correct_log 1 0 (View 108 1 (set 7) ∷ []) ∷ []) []
    ∷ judged_of [] [] [] ∷ [])
    ≡ 9 ∷ 9 ∷ 0 ∷ []
unfolding judged_of
each_part_is_broken = refl
