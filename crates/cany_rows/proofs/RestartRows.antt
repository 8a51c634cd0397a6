-- Worked rows of nodes that start again.
use Rattle.std.specs.Prelude.{ℕ, suc, ◌≡◌, ◌≤◌, Contains, true, false, List, [], ◌∷◌, length, map, Option, Some, None, replicate, refl, codes}
use Rattle.std.specs.List.{range_with_len}
use Rattle.std.proofs.Common.{arith, lit<, lit≤}
use Rattle.cany_base.specs.declared.class.Class.TheVariants as class
use Rattle.cany_base.specs.declared.format.Format.TheVariants.{One, Two}
use Rattle.cany_base.specs.declared.log_entry.LogEntry.{LogEntry}
use Rattle.cany_base.specs.declared.message.NodeAsk.{NodeAsk}
use Rattle.cany_base.specs.declared.message.SendAsk.{SendAsk}
use Rattle.cany_base.specs.declared.message.Service.TheVariants as service
use Rattle.cany_base.specs.declared.notice.NoticeKind.TheVariants.{Idle, Got, Sent}
use Rattle.cany_base.specs.declared.rule.Verdict.TheVariants.{Clean, Lost}
use Rattle.cany_base.specs.declared.slot_note.SlotNote.{SlotNote}
use Rattle.cany_base.specs.Frame.{FrameParts, identifier_of, key_of}
use Rattle.cany_base.specs.Nodes.{Nodes}
use Rattle.cany_base.specs.Params.{Parameters}
use Rattle.cany_base.specs.Scenario.{ScenarioParts}
use Rattle.cany_model.specs.declared.reply.StepReply.TheVariants.{NothingYet}
use Rattle.cany_model.specs.declared.span.Span.{Span}
use Rattle.cany_model.specs.Bus.Frames.{identity_of, is_before, is_of, same_frame}
use Rattle.cany_model.specs.Bus.History.{ended_history, history, is_hidden}
use Rattle.cany_model.specs.Runs.Incarnations.{incarnation_of, span_of, log_of}
use Rattle.cany_model.specs.Bus.Restart.{next_incarnation, restarted_in}
use Rattle.cany_model.specs.Runs.RoundRobin.{round_robin}
use Rattle.cany_model.specs.Runs.Run.{run}
use Rattle.cany_model.specs.Bus.Slot.{attempts}
use Rattle.cany_model.specs.Bus.State.{Incarnation, RunState, node_at, original}
use Rattle.cany_model.specs.Promises.Hypothesis.{IsWithin}
use Rattle.cany_model.specs.Promises.Entries.{HasDelivered}
use Rattle.cany_model.specs.Promises.FirstSlots.{first_carried}
use Rattle.cany_model.specs.Promises.Settled.{IsCorrectFrom, is_settled}
use Rattle.cany_model.specs.Rules.Log.{log}
use Rattle.cany_model.specs.Rules.Messages.{Message, data_id, messages_of}
use Rattle.cany_model.specs.Rules.Turn.{scenario_for}
use Rattle.cany_model.proofs.Promises.BreakFacts.{first_break_exact}
use Rattle.cany_rows.proofs.RowWords.{Followed-all, Refused, carries, delivers, delivers_rel, ed, first_frame, first_rel, follow, idle, insides, lag_1, one_message, one_rel, rel, report, row, scenario, send, set, shown, slot_rule, steps, three, running_node, whole_run, report_of, run_of}

-- ---- what a row is written with

unfoldable again : ℕ → ℕ → NodeAsk
again slot node = record { slot = slot; node = node }

unfoldable pub with_restarts : List NodeAsk → ScenarioParts → ScenarioParts
with_restarts restarts sc = record sc { restarts = restarts }

unfoldable pub span : ℕ → Option ℕ → ℕ → Span
span since stopped read = record { since = since; stopped = stopped; read = read }

unfoldable pub incarnation : ℕ → ℕ → ℕ → ℕ → Incarnation
incarnation number since from cycle = record { number = number; since = since; from = from; cycle = cycle }

-- the spans and the logs of the incarnations of node i, by number, one more than there are
unfoldable pub lives : ScenarioParts → RunState → ℕ → List (Option Span × List LogEntry)
unfolding report incarnation_of ended_history
lives sc s i = map (λ number. (span_of s i number, log_of sc s i number)) (range_with_len 0 (suc (suc (length (node_at s.nodes i).ended))))

pub record RestartReport : Type 0 where
  pub bus : List SlotNote
  -- of node 0
  pub lives : List (Option Span × List LogEntry)
  -- the nodes that started again at the end of each of these slots
  pub restarted : List Nodes

unfoldable restart_report : ScenarioParts → List ℕ → RunState → RestartReport
unfolding report lives restarted_in
restart_report sc slots s = record { bus = shown s.trace; lives = lives sc s 0; restarted = map (restarted_in s) slots }

-- a restarted node takes part two slots after its first
unfoldable soon : ℕ → Parameters
soon slots = record (three slots 1 2) { bound = 2 }

unfoldable pub restart_row : Unit {0}
unfolding row again with_restarts span incarnation incarnation_of ended_history lives restarted_in restart_report soon lag_1
restart_row = tt

-- ---- a node that hears again

-- node 0 stops in slot 5, and starts again at the end of slot 10: it takes part from slot 47 on
unfoldable stopped_and_back : ScenarioParts
stopped_and_back = with_restarts (again 10 0 ∷ []) (scenario (three 60 1 2) (send 50 1 (1 ∷ []) ∷ []) (slot_rule 5 Clean 1 ∷ []))

restart_hears_again : restart_report stopped_and_back (10 ∷ 11 ∷ []) (run_of stopped_and_back) ≡ record {
  bus = idle 5 1 ∷ carries 51 (ed 1 0 (1 ∷ [])) 2 5 Clean 0 ∷ carries 52 (ed 1 0 (1 ∷ [])) 5 2 Clean 0 ∷ [];
  lives = (Some (span 0 (Some 5) 5), []) ∷ (Some (span 11 None 49), delivers 51 1 0 (1 ∷ []) ∷ []) ∷ (None, []) ∷ [];
  restarted = set 1 ∷ set 0 ∷ [];
}
unfolding restart_row stopped_and_back
restart_hears_again = refl

-- it takes part bound and lag slots after its first one: these are 36 and 0, and 75 and 1
first_slots : map (λ p. next_incarnation p 10 original) (three 60 1 2 ∷ lag_1 60 1 ∷ []) ≡ incarnation 1 11 47 1 ∷ incarnation 1 11 87 1 ∷ []
unfolding restart_row
first_slots = refl

-- ---- stops and entries

-- node 0 stops in slot 1 of so many slots
unfoldable stops_in_1 : ℕ → List NodeAsk → ScenarioParts
stops_in_1 slots restarts = with_restarts restarts (scenario (soon slots) [] (slot_rule 1 Clean 1 ∷ []))

-- a node that starts again in the very slot of its stop misses no slot: only the turn of that one
-- falls out
restart_in_the_slot_of_the_stop :
    (let sc = stops_in_1 4 (again 1 0 ∷ []) in restart_report sc (0 ∷ 1 ∷ 2 ∷ []) (run sc (steps (codes ".012.12.012.012")))) ≡ record {
      bus = idle 1 1 ∷ [];
      lives = (Some (span 0 (Some 1) 1), []) ∷ (Some (span 2 None 2), []) ∷ (None, []) ∷ [];
      restarted = set 0 ∷ set 1 ∷ set 0 ∷ [];
    }
unfolding restart_row stops_in_1
restart_in_the_slot_of_the_stop = refl

round_robin_with_a_restart : (let sc = stops_in_1 4 (again 1 0 ∷ []) in round_robin sc) ≡ steps (codes ".012.12.012.012")
unfolding restart_row stops_in_1
round_robin_with_a_restart = refl

restart_in_the_last_slot :
    (let sc = stops_in_1 4 (again 3 0 ∷ []) in restart_report sc (3 ∷ []) (run_of sc)) ≡ record {
      bus = idle 1 1 ∷ [];
      lives = (Some (span 0 (Some 1) 1), []) ∷ (Some (span 4 None 0), []) ∷ (None, []) ∷ [];
      restarted = set 1 ∷ [];
    }
unfolding restart_row stops_in_1
restart_in_the_last_slot = refl

-- the run of such a journal is whole: the node has nothing to read
ends_with_a_restart :
    (let sc = stops_in_1 4 (again 3 0 ∷ []) in follow sc (steps (codes ".012.12.12.12"))) ≡ Followed-all
unfolding restart_row stops_in_1
ends_with_a_restart = refl

entry_for_a_running_node_does_nothing :
    (let sc = scenario (soon 5) one_message [] in
    run (with_restarts (again 0 0 ∷ again 1 1 ∷ again 4 2 ∷ []) sc) (round_robin sc) ≡ run sc (round_robin sc))
unfolding restart_row
entry_for_a_running_node_does_nothing = refl

-- an entry acts in its own slot, at its own node
entry_of_another_slot_or_node_does_nothing :
    (let journal = steps (codes ".012.12.12.12") in run (stops_in_1 4 (again 0 0 ∷ again 1 1 ∷ again 2 2 ∷ [])) journal ≡ run (stops_in_1 4 []) journal)
unfolding restart_row stops_in_1
entry_of_another_slot_or_node_does_nothing = refl

entry_after_the_restart_does_nothing :
    (let journal = steps (codes ".012.12.12.012") in run (stops_in_1 4 (again 2 0 ∷ again 3 0 ∷ [])) journal ≡ run (stops_in_1 4 (again 2 0 ∷ [])) journal)
unfolding restart_row stops_in_1
entry_after_the_restart_does_nothing = refl

two_entries_make_one_restart :
    (let journal = steps (codes ".012.12.12.012") in run (stops_in_1 4 (again 2 0 ∷ again 2 0 ∷ [])) journal ≡ run (stops_in_1 4 (again 2 0 ∷ [])) journal)
unfolding restart_row stops_in_1
two_entries_make_one_restart = refl

-- one node stops twice and starts again twice, once with another: the second time it reads one
-- notice before it stops
two_restarts :
    (let sc = with_restarts (again 2 0 ∷ again 5 1 ∷ again 5 0 ∷ []) (scenario (soon 8) [] (slot_rule 1 Clean 1 ∷ slot_rule 4 Clean 3 ∷ [])) in
    restart_report sc (2 ∷ 5 ∷ []) (run_of sc)) ≡ record {
      bus = idle 1 1 ∷ idle 4 3 ∷ [];
      lives = (Some (span 0 (Some 1) 1), []) ∷ (Some (span 3 (Some 4) 1), []) ∷ (Some (span 6 None 2), []) ∷ (None, []) ∷ [];
      restarted = set 1 ∷ set 3 ∷ [];
    }
unfolding restart_row
two_restarts = refl

-- ---- what a restart takes away

-- node 0 lost its frame, node 2 rejected it, and both stop with that
unfoldable stops_with_a_frame : List NodeAsk → ScenarioParts
stops_with_a_frame restarts = with_restarts restarts (scenario (soon 5) one_message (slot_rule 1 Lost 5 ∷ []))

before_the_restart :
    insides (stops_with_a_frame (again 2 0 ∷ again 2 2 ∷ [])) (steps (codes ".012."))
    ≡ record { transmit = 8; receive = 0; waiting = first_frame ∷ [] } ∷ record { transmit = 0; receive = 1; waiting = [] }
    ∷ record { transmit = 0; receive = 1; waiting = [] } ∷ []
unfolding restart_row stops_with_a_frame
before_the_restart = refl

after_the_restart :
    insides (stops_with_a_frame (again 2 0 ∷ again 2 2 ∷ [])) (steps (codes ".012.1."))
    ≡ record { transmit = 0; receive = 0; waiting = [] } ∷ record { transmit = 0; receive = 1; waiting = [] }
    ∷ record { transmit = 0; receive = 0; waiting = [] } ∷ []
unfolding restart_row stops_with_a_frame
after_the_restart = refl

-- so the message that the earlier incarnation asked for is lost, and settled
message_of_an_earlier_incarnation :
    (let sc = stops_with_a_frame (again 2 0 ∷ again 2 2 ∷ []) in report_of sc) ≡ whole_run (steps (codes ".012.1.1.012.012"))
    (carries 1 first_frame 1 0 Lost 5 ∷ [])
    (replicate 3 (running_node 5 []))
    (true ∷ [])
unfolding restart_row stops_with_a_frame
message_of_an_earlier_incarnation = refl

-- at lag 1: two notices are unread as the node stops and starts again, and it never reads them
unfoldable stops_unread : ScenarioParts
stops_unread = with_restarts (again 1 0 ∷ []) (scenario (lag_1 3 1) [] (slot_rule 1 Clean 1 ∷ []))

unread_notices_are_gone : follow stops_unread (steps (codes "..0")) ≡ Refused 2 (NothingYet 2)
unfolding restart_row stops_unread
unread_notices_are_gone = refl

they_were_not_read : restart_report stops_unread (1 ∷ []) (run stops_unread (steps (codes "..1212.0"))) ≡ record {
  bus = idle 1 1 ∷ [];
  lives = (Some (span 0 (Some 1) 0), []) ∷ (Some (span 2 None 1), []) ∷ (None, []) ∷ [];
  restarted = set 1 ∷ [];
}
unfolding restart_row stops_unread
they_were_not_read = refl

-- the log of the earlier one stays as it was
each_incarnation_has_its_log :
    (let sc = with_restarts (again 3 0 ∷ []) (scenario (soon 10) (send 0 1 (1 ∷ []) ∷ send 6 1 (2 ∷ []) ∷ []) (slot_rule 3 Clean 1 ∷ [])) in
    restart_report sc [] (run_of sc)) ≡ record {
      bus = carries 1 (ed 1 0 (1 ∷ [])) 2 5 Clean 0 ∷ carries 2 (ed 1 0 (1 ∷ [])) 5 2 Clean 0 ∷ idle 3 1
          ∷ carries 7 (ed 1 1 (2 ∷ [])) 2 5 Clean 0 ∷ carries 8 (ed 1 1 (2 ∷ [])) 5 2 Clean 0 ∷ [];
      lives = (Some (span 0 (Some 3) 3), delivers 1 1 0 (1 ∷ []) ∷ []) ∷ (Some (span 4 None 6), delivers 7 1 1 (2 ∷ []) ∷ []) ∷ (None, []) ∷ [];
      restarted = [];
    }
unfolding restart_row
each_incarnation_has_its_log = refl

-- ---- the slots before it takes part

-- node 0 starts again in slot 0, and takes part from slot 3 on
unfoldable from_3 : ℕ → List SendAsk → ScenarioParts
from_3 slots sends = with_restarts (again 0 0 ∷ []) (scenario (soon slots) sends (slot_rule 0 Clean 1 ∷ []))

-- its send of slot 2 is not made, that of slot 3 is; their numbers are those of the text
unfoldable sends_at_2_and_3 : ScenarioParts
sends_at_2_and_3 = from_3 7 (send 2 0 (1 ∷ []) ∷ send 3 0 (2 ∷ []) ∷ [])

send_before_it_takes_part : restart_report sends_at_2_and_3 (0 ∷ []) (run_of sends_at_2_and_3) ≡ record {
  bus = idle 0 1 ∷ carries 4 (ed 0 1 (2 ∷ [])) 1 6 Clean 0 ∷ carries 5 (ed 0 1 (2 ∷ [])) 6 1 Clean 0 ∷ [];
  lives = (Some (span 0 (Some 0) 0), []) ∷ (Some (span 1 None 6), delivers 4 0 1 (2 ∷ []) ∷ []) ∷ (None, []) ∷ [];
  restarted = set 1 ∷ [];
}
unfolding restart_row sends_at_2_and_3 from_3
send_before_it_takes_part = refl

-- the first message is settled with the restart, the second once its copies were read
settled_as_it_comes_too_late :
    map (λ journal. (report sends_at_2_and_3 (steps journal)).settled)
    ([] ∷ codes ".12" ∷ codes ".12.012.012" ∷ codes ".12.012.012.012" ∷ codes ".12.012.012.012.012.012" ∷ [])
    ≡ (false ∷ false ∷ []) ∷ (true ∷ false ∷ []) ∷ (true ∷ false ∷ []) ∷ (true ∷ false ∷ []) ∷ (true ∷ true ∷ []) ∷ []
unfolding restart_row sends_at_2_and_3 from_3
settled_as_it_comes_too_late = refl

-- Node 1 sends two messages: node 0 takes the frames of the first, which are carried in slots 1 and
-- 2, as any node does, but its history does not have them. It has that of slot 3.
unfoldable two_are_sent : ScenarioParts
two_are_sent = from_3 6 (send 0 1 (1 ∷ []) ∷ send 2 1 (2 ∷ []) ∷ [])

unfoldable hidden_frame : FrameParts
hidden_frame = ed 1 0 (1 ∷ [])

unfoldable heard_frame : FrameParts
heard_frame = ed 1 1 (2 ∷ [])

copies_of_two :
    restart_report two_are_sent [] (run_of two_are_sent) ≡ record {
      bus = idle 0 1 ∷ carries 1 hidden_frame 2 5 Clean 0 ∷ carries 2 hidden_frame 4 3 Clean 0 ∷ carries 3 heard_frame 2 5 Clean 0
          ∷ carries 4 heard_frame 5 2 Clean 0 ∷ [];
      lives = (Some (span 0 (Some 0) 0), []) ∷ (Some (span 1 None 5), delivers 3 1 1 (2 ∷ []) ∷ []) ∷ (None, []) ∷ [];
      restarted = [];
    }
unfolding restart_row two_are_sent from_3 hidden_frame heard_frame
copies_of_two = refl

hidden_slots_are_idle :
    (let s = run_of two_are_sent in map (λ i. history i s) (0 ∷ 2 ∷ []))
    ≡ (Idle ∷ Sent heard_frame ∷ Got heard_frame ∷ Idle ∷ Idle ∷ Idle ∷ [])
    ∷ (Idle ∷ Sent heard_frame ∷ Got heard_frame ∷ Sent hidden_frame ∷ Got hidden_frame ∷ Idle ∷ []) ∷ []
unfolding restart_row two_are_sent from_3 hidden_frame heard_frame
hidden_slots_are_idle = refl

slots_before_from_are_hidden : map (λ slot. is_hidden (incarnation 1 1 3 1) (idle slot 0)) (0 ∷ 1 ∷ 2 ∷ 3 ∷ 4 ∷ []) ≡ true ∷ true ∷ true ∷ false ∷ false ∷ []
unfolding restart_row
slots_before_from_are_hidden = refl

none_is_hidden_from_the_first : map (λ slot. is_hidden (incarnation 0 0 3 1) (idle slot 0)) (0 ∷ 2 ∷ 3 ∷ []) ≡ false ∷ false ∷ false ∷ []
unfolding restart_row
none_is_hidden_from_the_first = refl

-- the scenario as it follows it: it is no member, and tells its number, and that of the opening
-- follows it as it is read
followed_scenario :
    (let sc = record (scenario (three 60 1 2) [] []) { members = set 7 } in map (scenario_for sc) (original ∷ incarnation 1 11 47 1 ∷ []))
    ≡ record (scenario (three 60 1 2) [] []) { members = set 7 } ∷ record (scenario (three 60 1 2) [] []) { from = 47; inc = 1 } ∷ []
unfolding restart_row
followed_scenario = refl

-- An origin that started again is the origin of its earlier message too: it delivers at a copy, and
-- has no timer. The others fall back.
restarted_origin_has_no_timer :
    (let sc = with_restarts (again 1 0 ∷ []) (scenario (soon 24) one_rel (slot_rule 1 Clean 1 ∷ [])) in
    restart_report sc (1 ∷ []) (run_of sc)) ≡ record {
      bus = carries 1 first_rel 1 6 Clean 1 ∷ carries 12 first_rel 6 1 Clean 0 ∷ [];
      lives = (Some (span 0 (Some 1) 1), []) ∷ (Some (span 2 None 22), delivers_rel 12 0 0 (1 ∷ []) ∷ []) ∷ (None, []) ∷ [];
      restarted = set 1 ∷ [];
    }
unfolding restart_row
restarted_origin_has_no_timer = refl

-- ---- agreement

unfoldable message : ℕ → ℕ → List ℕ → Message
message slot seq payload = record { slot = slot; origin = 1; seq = seq; service = service.Ed; payload = payload }

three-is-above-1 : 3 ≤ 1 → ⊥
three-is-above-1 below = omega (arith, below)

-- the premises of agreement are met at a node that started again, of the message that was first
-- carried since it takes part
premises_are_met_after_a_restart :
    (let s = run_of two_are_sent in
    let m = message 2 1 (2 ∷ []) in
    IsWithin two_are_sent.params s.trace × Contains (messages_of two_are_sent.sends) m × (is_settled two_are_sent s m ≡ true)
    × (first_carried (data_id m) s.trace ≡ Some 3) × IsCorrectFrom two_are_sent s 3 0 × HasDelivered two_are_sent s 0 m × IsCorrectFrom two_are_sent s 3 2)
unfolding restart_row two_are_sent from_3 message first_carried
premises_are_met_after_a_restart = (
  (first_break_exact two_are_sent.params (run_of two_are_sent).trace).0 refl,
  (1, lit< tt, refl),
  refl,
  refl,
  record { correct = record { there = lit< tt; running = refl }; took_part = lit≤ tt },
  record { entry = delivers 3 1 1 (2 ∷ []); stands = (0, lit< tt, refl); delivers = (refl, refl, refl) },
  record { correct = record { there = lit< tt; running = refl }; took_part = lit≤ tt },
)

-- of the message that was carried before they are not: it is settled, and the restarted node does
-- not deliver it
not_met_of_an_earlier_message :
    (let s = run_of two_are_sent in
    let m = message 0 0 (1 ∷ []) in
    (is_settled two_are_sent s m ≡ true) × (first_carried (data_id m) s.trace ≡ Some 1) × (IsCorrectFrom two_are_sent s 1 0 → ⊥)
    × (log two_are_sent s 0 ≡ delivers 3 1 1 (2 ∷ []) ∷ []))
unfolding restart_row two_are_sent from_3 message first_carried
not_met_of_an_earlier_message = (refl, refl, λ correct. three-is-above-1 correct.took_part, refl)

-- the first slot that carried a frame, with whichever verdict

first_of_three : first_carried (identity_of first_frame) (carries 5 first_frame 6 1 Clean 0 ∷ idle 4 0 ∷ carries 3 first_frame 1 6 Clean 0
    ∷ carries 2 first_frame 1 0 Lost 0 ∷ carries 1 (ed 0 1 []) 1 6 Clean 0 ∷ carries 0 (ed 1 0 []) 2 5 Clean 0 ∷ []) ≡ Some 2
unfolding row first_carried
first_of_three = refl

never_carried : map (first_carried (identity_of first_frame)) ([] ∷ (idle 0 0 ∷ []) ∷ (idle 2 0 ∷ carries 1 (ed 0 1 []) 1 6 Clean 0
    ∷ carries 0 (rel 0 0 []) 1 6 Clean 0 ∷ []) ∷ []) ≡ None ∷ None ∷ None ∷ []
unfolding row first_carried
never_carried = refl

-- ---- frames that tell an incarnation

unfoldable life_sign : ℕ → ℕ → FrameParts
life_sign node inc = record { class = class.Els; number = 4; node = node; inc = inc; payload = [] }

-- the incarnation decides after the node
lower_incarnation_wins :
    map (λ inc. is_before (life_sign 2 inc) (life_sign 2 1)) (0 ∷ 1 ∷ 2 ∷ []) ≡ true ∷ false ∷ false ∷ []
unfolding row life_sign
lower_incarnation_wins = refl

node_comes_before_incarnation : (is_before (life_sign 2 15) (life_sign 3 0) ∷ is_before (life_sign 3 0) (life_sign 2 15) ∷ []) ≡ true ∷ false ∷ []
unfolding row life_sign
node_comes_before_incarnation = refl

-- the two have one identity and are not one frame, and attempts count by identity
one_identity : is_of (identity_of (life_sign 2 0)) (life_sign 2 1) ≡ true
unfolding row life_sign
one_identity = refl

two_frames : same_frame (life_sign 2 0) (life_sign 2 1) ≡ false
unfolding row life_sign
two_frames = refl

unfoldable signs : List SlotNote
signs = carries 7 (life_sign 2 1) 4 3 Clean 0 ∷ carries 5 (life_sign 3 0) 8 7 Clean 0 ∷ carries 3 (life_sign 2 0) 4 3 Clean 0 ∷ []

attempts_of_two_incarnations : attempts (identity_of (life_sign 2 1)) signs ≡ 2
unfolding row life_sign signs
attempts_of_two_incarnations = refl

first_of_two_incarnations : first_carried (identity_of (life_sign 2 1)) signs ≡ Some 3
unfolding row life_sign signs first_carried
first_of_two_incarnations = refl

-- the last identifier of its class
unfoldable last_vector : FrameParts
last_vector = record { class = class.Rha; number = 65535; node = 31; inc = 15; payload = 0 ∷ 0 ∷ 0 ∷ 7 ∷ [] }

identifiers_with_an_incarnation :
    (identifier_of One (life_sign 2 0) ∷ identifier_of One (life_sign 2 3) ∷ key_of One (life_sign 2 3) ∷ identifier_of One last_vector ∷ key_of One last_vector
    ∷ identifier_of Two (life_sign 2 3) ∷ [])
    ≡ 0x4000820 ∷ 0x4000823 ∷ 0x8001047 ∷ 0x3ffffff ∷ 0x7fffffe ∷ 0x4001023 ∷ []
unfolding life_sign last_vector
identifiers_with_an_incarnation = refl
