-- Worked rows of settled messages, and of what is final of one: a message of which all is, one that
-- is still relayed, one that is still to be delivered, and one whose slot is still to come.
use Rattle.std.specs.Prelude.{Bool, ◌≡◌, ℕ, ◌++◌, ◌<◌, ◌&&◌, true, false, nat_le, List, [], ◌∷◌, Contains, Some, codes, drop, take, refl}
use Rattle.std.specs.List.{list_any}
use Rattle.std.proofs.Common.{ap, arith, lit<, ◌∙◌, subst, sym}
use Rattle.std.proofs.lemmas.Bool.{and_from, both_ways, false_from_ne_true, false≢true, le-leb}
use Rattle.cany_base.specs.declared.class.Class.TheVariants as class
use Rattle.cany_base.specs.declared.log_entry.LogEntry.{LogEntry}
use Rattle.cany_base.specs.declared.log_entry.LogEntry.TheVariants.{Deliver}
use Rattle.cany_base.specs.declared.message.Service.TheVariants.{Ed, Tot}
use Rattle.cany_base.specs.declared.rule.Verdict.TheVariants.{Clean}
use Rattle.cany_base.specs.declared.slot_note.SlotNote.{SlotNote}
use Rattle.cany_base.specs.declared.step.Step.{Step}
use Rattle.cany_base.specs.Scenario.{ScenarioParts}
use Rattle.cany_model.specs.Bus.Frames.{same_class, same_identity}
use Rattle.cany_model.specs.Bus.Slot.{carried}
use Rattle.cany_model.specs.Bus.State.{RunState, slots_run}
use Rattle.cany_model.specs.Promises.Settled.{is_settled}
use Rattle.cany_model.specs.Rules.Messages.{Message, message_key}
use Rattle.cany_model.specs.Runs.Run.{all_read, run}
use Rattle.cany_laws.specs.Final.{IsFinal, is_frame_of}
use Rattle.cany_laws.specs.Logs.{log_as, present_of}
use Rattle.cany_law_rows.proofs.PremiseWords.{OfEntry, asked_by, is_present, none_has, note_in, of_each, of_entry}
use Rattle.cany_law_rows.proofs.RowWords.{again, delivers, of_nodes, repeated, row, seen_by, send, settled_after, slot_rule, set, steps, two, within}

-- ---- a message that both nodes have sent

unfoldable at_once : ScenarioParts
at_once = two 6 (send Ed 0 0 (1 ∷ []) ∷ []) [] []

abbrev its_message : Message
its_message = record { slot = 0; origin = 0; seq = 0; service = Ed; payload = 1 ∷ [] }

-- after three slots it is settled
unfoldable three_slots : List Step
three_slots = steps (codes ".01.01.01")

-- how many slots ran, and whether it is settled
record Front : Type 0 where
  slots : ℕ
  settled : Bool

abbrev front_in : ScenarioParts → Message → RunState → Front
front_in sc m s = record { slots = slots_run s; settled = is_settled sc s m }

settled_after_three : seen_by (front_in at_once its_message) at_once three_slots ≡ within (record { slots = 3; settled = true })
unfolding row at_once three_slots
settled_after_three = refl

-- after three more, whether a slot from slot 3 on carried a frame of it, and the logs
record Later : Type 0 where
  settled : Bool
  carried : Bool
  logs : List (List (List LogEntry))

abbrev carries_from : ℕ → SlotNote → Bool
carries_from slot note = carried (is_frame_of its_message) note && nat_le slot note.slot

abbrev later_in : RunState → Later
later_in s = record {
  settled = is_settled at_once s its_message;
  carried = list_any (carries_from 3) s.trace;
  logs = of_nodes (log_as at_once) 2 s;
}

abbrev later : Later
later = record {
  settled = true;
  carried = false;
  logs = ((delivers 1 Ed 0 0 (1 ∷ []) ∷ []) ∷ []) ∷ ((delivers 1 Ed 0 0 (1 ∷ []) ∷ []) ∷ []) ∷ [];
}

nothing_comes_of_it : seen_by later_in at_once (three_slots ++ three_slots) ≡ within later
unfolding row at_once three_slots
nothing_comes_of_it = refl

seen_later : later_in (run at_once (three_slots ++ three_slots)) ≡ later
seen_later = asked_by later_in at_once (three_slots ++ three_slots) (within later) nothing_comes_of_it

ran_three : slots_run (run at_once three_slots) ≡ 3
ran_three =
    ap (λ (seen : Front). seen.slots)
    (asked_by (front_in at_once its_message) at_once three_slots (within (record { slots = 3; settled = true })) settled_after_three)

it_is_final : IsFinal at_once three_slots three_slots its_message
unfolding two at_once
it_is_final = record {
  settled = λ read. ap (λ (seen : Later). seen.settled) seen_later;
  silent = λ note stands late.
      false_from_ne_true (carried (is_frame_of its_message) note) (λ has.
      both_ways (carries_from 3 note)
      (none_has (carries_from 3) (run at_once (three_slots ++ three_slots)).trace (ap (λ (seen : Later). seen.carried) seen_later) note stands)
      (and_from (carried (is_frame_of its_message) note) (nat_le 3 note.slot) has (le-leb 3 note.slot (omega (arith, late, ran_three)))));
  delivered = λ i e is slot service payload stands.
      let before : slot < 3 =
      of_each (λ j log. (entry : LogEntry) → Contains log entry → OfEntry (λ at. at < 3) (λ at node. Unit {0}) entry) (log_as at_once) at_once
      (run at_once (three_slots ++ three_slots)) later.logs (ap (λ (seen : Later). seen.logs) seen_later) (
        (of_entry (λ at. at < 3) (λ at node. Unit {0}) (delivers 1 Ed 0 0 (1 ∷ []) ∷ []) (lit< tt, tt), tt),
        ((of_entry (λ at. at < 3) (λ at node. Unit {0}) (delivers 1 Ed 0 0 (1 ∷ []) ∷ []) (lit< tt, tt), tt), tt),
      ) i e is
      (Deliver slot service (message_key its_message) payload) stands in
      omega (arith, before, ran_three);
}

-- ---- a message that is still relayed

-- After two slots both nodes have delivered it, and node 1 relays it in slot 2.
unfoldable two_slots : List Step
two_slots = steps (codes ".01.01")

unfoldable four_slots : List Step
four_slots = steps (codes ".01.01.01.01")

delivered_and_not_settled : seen_by (front_in at_once its_message) at_once two_slots ≡ within (record { slots = 2; settled = false })
unfolding row at_once two_slots
delivered_and_not_settled = refl

-- the note of slot 2
abbrev relayed : SlotNote
relayed = record {
  slot = 2;
  frame = Some (record { class = class.Ed; number = 0; node = 0; inc = 0; payload = 1 ∷ [] });
  senders = set 2;
  takers = set 1;
  verdict = Clean;
  stops = set 0;
}

relayed_in_slot_2 : seen_by (λ s. take 1 (drop 3 s.trace)) at_once (two_slots ++ four_slots) ≡ within (relayed ∷ [])
unfolding row at_once two_slots four_slots
relayed_in_slot_2 = refl

a_frame_is_to_come : IsFinal at_once two_slots four_slots its_message → ⊥
unfolding same_class same_identity
a_frame_is_to_come says =
    let ran = ap (λ (seen : Front). seen.slots)
    (asked_by (front_in at_once its_message) at_once two_slots (within (record { slots = 2; settled = false })) delivered_and_not_settled) in
    let trace = (run at_once (two_slots ++ four_slots)).trace in
    let stands = note_in trace 3 relayed (asked_by (λ s. take 1 (drop 3 s.trace)) at_once (two_slots ++ four_slots) (within (relayed ∷ [])) relayed_in_slot_2) in
    false≢true (sym (says.silent relayed stands (omega (arith, ran))))

-- ---- a message that is still to be delivered

-- With no omission the origin alone accepts its message. Node 0 stops with the slot that carries
-- its own, so this is accepted by nobody and closes in slot 6. The message of node 1 is carried in
-- slot 2 and accepted in slot 3, and waits for that. So that the row is short, the bound has five
-- slots, which the formulas do not allow.
unfoldable behind_an_open_one : ScenarioParts
unfolding two
behind_an_open_one =
    let sc = two 8 (send Tot 0 0 (1 ∷ []) ∷ send Tot 1 1 (2 ∷ []) ∷ []) (slot_rule 1 Clean 1 ∷ []) [] in
    record sc { params = record sc.params { omit = 0; bound = 5 } }

abbrev second : Message
second = record { slot = 1; origin = 1; seq = 0; service = Tot; payload = 2 ∷ [] }

unfoldable five_slots : List Step
five_slots = steps (codes ".01.1.1.1.1")

unfoldable three_more : List Step
three_more = steps (codes ".1.1.1")

sent_and_not_settled : seen_by (front_in behind_an_open_one second) behind_an_open_one five_slots ≡ within (record { slots = 5; settled = false })
unfolding row behind_an_open_one five_slots
sent_and_not_settled = refl

-- whether a slot from slot 5 on carried a frame of it, whether it is settled at the end, and the
-- log of node 1
record Waited : Type 0 where
  carried : Bool
  settled : Bool
  log : List LogEntry

abbrev waited_in : RunState → Waited
waited_in s = record {
  carried = list_any (λ note. carried (is_frame_of second) note && nat_le 5 note.slot) s.trace;
  settled = is_settled behind_an_open_one s second;
  log = log_as behind_an_open_one s 1 (present_of s 1);
}

abbrev waited : Waited
waited = record { carried = false; settled = true; log = delivers 6 Tot 1 0 (2 ∷ []) ∷ [] }

delivered_in_slot_6 : seen_by waited_in behind_an_open_one (five_slots ++ three_more) ≡ within waited
unfolding row behind_an_open_one five_slots three_more
delivered_in_slot_6 = refl

a_delivery_is_to_come : IsFinal behind_an_open_one five_slots three_more second → ⊥
unfolding behind_an_open_one
a_delivery_is_to_come says =
    let s : RunState = run behind_an_open_one (five_slots ++ three_more) in
    let entry : LogEntry = delivers 6 Tot 1 0 (2 ∷ []) in
    let ran : slots_run (run behind_an_open_one five_slots) ≡ 5 = ap (λ (seen : Front). seen.slots)
    (asked_by (front_in behind_an_open_one second) behind_an_open_one five_slots (within (record { slots = 5; settled = false })) sent_and_not_settled) in
    let seen = asked_by waited_in behind_an_open_one (five_slots ++ three_more) (within waited) delivered_in_slot_6 in
    let stands = subst (λ log. Contains log entry) (sym (ap (λ (w : Waited). w.log) seen)) (0, lit< tt, refl) in
    let before = says.delivered 1 (present_of s 1) (is_present behind_an_open_one s 1 (lit< tt)) 6 Tot (2 ∷ []) stands in
    omega (arith, before, ran)

-- ---- a message whose slot is still to come

-- Node 0 is to send in slot 30, stops in slot 1, and starts again at the end of slot 2: it takes
-- part since slot 22. After slot 1 its message is settled, and after slot 30 it is not, where all
-- is read: the law asks that the scripted slot ran.
unfoldable asks_again : ScenarioParts
asks_again = two 33 (send Ed 30 0 (1 ∷ []) ∷ []) (slot_rule 1 Clean 1 ∷ []) (again 2 0 ∷ [])

abbrev to_come : Message
to_come = record { slot = 30; origin = 0; seq = 0; service = Ed; payload = 1 ∷ [] }

unfoldable to_its_stop : List Step
to_its_stop = steps (codes ".01.1")

unfoldable to_slot_30 : List Step
to_slot_30 = steps (codes ".1" ++ repeated 28 (codes ".01"))

settled_with_its_stop : seen_by (front_in asks_again to_come) asks_again to_its_stop ≡ within (record { slots = 2; settled = true })
unfolding row asks_again to_its_stop
settled_with_its_stop = refl

record Opened : Type 0 where
  read : Bool
  settled : Bool

abbrev opened_in : RunState → Opened
opened_in s = record { read = all_read s; settled = is_settled asks_again s to_come }

open_after_slot_30 : seen_by opened_in asks_again (to_its_stop ++ to_slot_30) ≡ within (record { read = true; settled = false })
unfolding row asks_again to_its_stop to_slot_30
open_after_slot_30 = refl

-- at the end it is settled again
settled_again : settled_after 97 asks_again to_come ≡ true
unfolding row asks_again
settled_again = refl

its_slot_is_to_come : IsFinal asks_again to_its_stop to_slot_30 to_come → ⊥
its_slot_is_to_come says =
    let seen = asked_by opened_in asks_again (to_its_stop ++ to_slot_30) (within (record { read = true; settled = false })) open_after_slot_30 in
    false≢true (sym (ap (λ (o : Opened). o.settled) seen) ∙ says.settled (ap (λ (o : Opened). o.read) seen))
