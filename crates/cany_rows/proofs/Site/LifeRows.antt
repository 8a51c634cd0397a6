-- Worked rows of life signs and failure signs: whole runs, and single turns after a past, newest
-- first.
use Rattle.std.specs.Prelude.{ℕ, ◌≡◌, ◌≤◌, ◌++◌, ◌&&◌, true, false, List, [], ◌∷◌, Some, None, map, replicate, codes, refl}
use Rattle.std.specs.List.{concat}
use Rattle.std.proofs.Common.{arith, lit<, lit≤}
use Rattle.cany_base.specs.declared.class.Class.{Class}
use Rattle.cany_base.specs.declared.class.Class.TheVariants as class
use Rattle.cany_base.specs.declared.format.Format.TheVariants.{One}
use Rattle.cany_base.specs.declared.log_entry.LogEntry.{LogEntry}
use Rattle.cany_base.specs.declared.log_entry.LogEntry.TheVariants.{Failed}
use Rattle.cany_base.specs.declared.notice.NoticeKind.{NoticeKind}
use Rattle.cany_base.specs.declared.notice.NoticeKind.TheVariants.{Idle, Got, Sent, Bad}
use Rattle.cany_base.specs.declared.rule.Verdict.TheVariants.{Clean, Partial, Silent}
use Rattle.cany_base.specs.Frame.{FrameParts}
use Rattle.cany_base.specs.Nodes.{Nodes}
use Rattle.cany_base.specs.Params.{Parameters}
use Rattle.cany_base.specs.Scenario.{ScenarioParts}
use Rattle.cany_model.specs.declared.breaks.BreakKind.TheVariants as kind
use Rattle.cany_model.specs.Bus.Frames.{identity_of}
use Rattle.cany_model.specs.Runs.Run.{all_read, run}
use Rattle.cany_model.specs.Bus.State.{Incarnation, original}
use Rattle.cany_model.specs.Promises.Hypothesis.{IsWithin}
use Rattle.cany_model.specs.Promises.Entries.{HasLoggedFailure}
use Rattle.cany_model.specs.Promises.FirstSlots.{first_carried}
use Rattle.cany_model.specs.Promises.Settled.{IsCorrectFrom, nobody_waits_with_sign}
use Rattle.cany_model.specs.Rules.Effect.{Effect, Ask, Withdraw, Enter}
use Rattle.cany_model.specs.Rules.Life.{failure_effects, life_effects}
use Rattle.cany_model.specs.Rules.Log.{log}
use Rattle.cany_model.specs.Rules.KnowledgeOf.{knowledge_of}
use Rattle.cany_model.specs.Rules.Knowledge.{FailureSign, Knowledge, after_life, fda_of, found as found_by_silence, after_admitting, knowledge_at_first, told}
use Rattle.cany_model.specs.Rules.Turn.{effects_for, scenario_for, turn_effects}
use Rattle.cany_model.proofs.Promises.BreakFacts.{first_break_exact}
use Rattle.cany_rows.proofs.RowWords.{broken_run, accept, carries, delivers, delivers_rel, delivers_tot, confirm, ed, first_accept, first_tot, idle, one_tot, rel, report, row, scenario, send, send_rel, send_tot, set, slot_rule, steps, three, tot, running_node, stopped_node, whole_run, report_of, run_of}

-- ---- what a row is written with

-- a life sign of a node, and the failure sign of a node that was found in a cycle
unfoldable els : ℕ → ℕ → FrameParts
els node number = record { class = class.Els; number = number; node = node; inc = 0; payload = [] }

unfoldable fda : ℕ → ℕ → FrameParts
fda node cycle = record { class = class.Fda; number = cycle; node = node; inc = 0; payload = [] }

-- a frame of a class, with the number 0 and without payload; and the classes in their order
unfoldable named : Class → ℕ → FrameParts
named c node = record { class = c; number = 0; node = node; inc = 0; payload = [] }

unfoldable classes : List Class
classes = class.Accept ∷ class.Rha ∷ class.Els ∷ class.Fda ∷ class.Join ∷ class.Leave ∷ class.Confirm ∷ class.Tot ∷ class.Rel ∷ class.Ed ∷ []

unfoldable sign : ℕ → ℕ → FailureSign
sign node cycle = record { node = node; cycle = cycle }

-- a scenario in which a node starts again at the end of a slot
unfoldable with_restart : ℕ → ℕ → ScenarioParts → ScenarioParts
with_restart slot node sc = record sc { restarts = record { slot = slot; node = node } ∷ [] }

-- a scenario whose members are these
unfoldable of_members : ℕ → ScenarioParts → ScenarioParts
of_members members sc = record sc { members = set members }

unfoldable rounds_of : ℕ → List ℕ → List ℕ
rounds_of n round = concat (replicate n round)

unfoldable delivered : ℕ → List LogEntry
delivered slot = delivers_tot slot 0 0 (1 ∷ []) ∷ []

-- a life sign is due 4 slots after the last, and 6 slots are silence
unfoldable soon : ℕ → Parameters
soon omit = record (three 99 omit 2) { cycle = 10; life = 4; silence = 6 }

-- opens all that a run here is written with
unfoldable life_run : Unit {0}
unfolding row els fda named classes sign with_restart of_members rounds_of delivered soon
life_run = tt

-- ---- runs

-- Node 1 stops in slot 5. The others show life in every 37th slot, and find out in slot 73, before
-- any membership cycle starts.
unfoldable node_1_stops : ScenarioParts
node_1_stops = of_members 7 (scenario (record (three 100 1 2) { cycle = 200 }) [] (slot_rule 5 Clean 2 ∷ []))

failure_sign_before_any_cycle :
    report_of node_1_stops ≡ whole_run (steps (rounds_of 5 (codes ".012") ++ rounds_of 95 (codes ".02")))
    (idle 5 2 ∷ carries 37 (els 0 0) 1 4 Clean 0 ∷ carries 38 (els 2 0) 4 1 Clean 0 ∷ carries 74 (els 0 1) 1 4 Clean 0
    ∷ carries 75 (els 2 1) 4 1 Clean 0 ∷ carries 76 (fda 1 0) 5 0 Clean 0 ∷ [])
    (running_node 100 (Failed 73 1 0 ∷ []) ∷ stopped_node 5 5 [] ∷ running_node 100 (Failed 73 1 0 ∷ []) ∷ [])
    []
unfolding life_run node_1_stops
failure_sign_before_any_cycle = refl

unfoldable unaccepted : ScenarioParts
unaccepted = of_members 7 (scenario (three 45 1 2) one_tot (slot_rule 1 (Partial (set 4)) 1 ∷ []))

totcan_unaccepted_is_dropped :
    report_of unaccepted ≡ whole_run (steps (codes ".012" ++ rounds_of 44 (codes ".12")))
    (carries 1 first_tot 1 2 (Partial (set 4)) 1 ∷ carries 37 (els 1 0) 2 4 Clean 0 ∷ carries 38 (els 2 0) 4 2 Clean 0 ∷ [])
    (stopped_node 1 1 [] ∷ running_node 45 [] ∷ running_node 45 [] ∷ [])
    (true ∷ [])
unfolding life_run unaccepted
totcan_unaccepted_is_dropped = refl

unfoldable accept_is_partial : ScenarioParts
accept_is_partial = of_members 7 (scenario (three 45 1 2) one_tot (slot_rule 2 (Partial (set 4)) 1 ∷ []))

totcan_accept_survives_its_sender :
    report_of accept_is_partial ≡ whole_run (steps (codes ".012.012" ++ rounds_of 43 (codes ".12")))
    (carries 1 first_tot 1 6 Clean 0 ∷ carries 2 first_accept 1 2 (Partial (set 4)) 1 ∷ carries 3 first_accept 2 4 Clean 0
    ∷ carries 4 first_accept 4 2 Clean 0 ∷ carries 37 (els 1 0) 2 4 Clean 0 ∷ carries 38 (els 2 0) 4 2 Clean 0 ∷ [])
    (stopped_node 2 2 (delivered 1) ∷ running_node 45 (delivered 2) ∷ running_node 45 (delivered 3) ∷ [])
    (true ∷ [])
unfolding life_run accept_is_partial
totcan_accept_survives_its_sender = refl

-- node 0 showed life by its message in slot 1, so its life sign is due one slot after the others
unfoldable silent_to_node_2 : ScenarioParts
silent_to_node_2 = of_members 7 (scenario (three 45 1 2) one_tot (slot_rule 1 (Silent (set 4)) 0 ∷ []))

silent_omission_is_outside :
    report_of silent_to_node_2 ≡ broken_run kind.Silent 1 (steps (rounds_of 45 (codes ".012")))
    (carries 1 first_tot 1 2 (Silent (set 4)) 0 ∷ carries 2 first_accept 1 6 Clean 0 ∷ carries 3 first_accept 2 5 Clean 0
    ∷ carries 37 (els 1 0) 2 5 Clean 0 ∷ carries 38 (els 0 0) 1 6 Clean 0 ∷ carries 39 (els 2 0) 4 3 Clean 0 ∷ [])
    (running_node 45 (delivered 1) ∷ running_node 45 (delivered 2) ∷ running_node 45 [] ∷ [])
    (true ∷ [])
unfolding life_run silent_to_node_2
silent_omission_is_outside = refl

-- four nodes, of which node 3 reads one slot behind the others
unfoldable late_reader : ScenarioParts
late_reader =
    of_members 15 (scenario
    (record { format = One; nodes = 4; lag = 1; omit = 1; errors = 2; bound = 122; cycle = 246; life = 123; silence = 247; confirm = 10; slots = 140 })
    one_tot (slot_rule 2 (Partial (set 6)) 1 ∷ []))

unfoldable one_behind : List ℕ
one_behind = codes ".012.0123" ++ rounds_of 138 (codes ".123") ++ codes "3"

totcan_accept_under_lag : report late_reader (steps one_behind) ≡ whole_run (steps one_behind)
    (carries 1 first_tot 1 14 Clean 0 ∷ carries 2 first_accept 1 8 (Partial (set 6)) 1 ∷ carries 4 first_accept 8 6 Clean 0
    ∷ carries 5 first_accept 6 8 Clean 0 ∷ carries 124 (els 1 0) 2 12 Clean 0 ∷ carries 125 (els 2 0) 4 10 Clean 0
    ∷ carries 126 (els 3 0) 8 6 Clean 0 ∷ [])
    (stopped_node 2 2 (delivered 1) ∷ running_node 140 (delivered 4)
    ∷ running_node 140 (delivered 4) ∷ running_node 140 (delivered 2) ∷ [])
    (true ∷ [])
unfolding life_run late_reader one_behind
totcan_accept_under_lag = refl

-- ---- runs with short intervals, before any cycle starts

-- Node 1 is the only member, and stops in slot 0. At lag 1 node 2 finds it in slot 6 and sends the
-- sign. Node 0 finds it too before it reads this copy, so its own sign goes out, and it does not
-- ask again at the copy, though it has not yet read that it has sent it.
unfoldable silence_at_lag_1 : ScenarioParts
silence_at_lag_1 = of_members 2 (scenario (record (soon 1) { lag = 1; cycle = 100; slots = 11 }) [] (slot_rule 0 Clean 2 ∷ []))

unfoldable one_reads_late : List ℕ
one_reads_late = rounds_of 6 (codes ".02") ++ codes ".2.0.0022.02.02"

found_twice_and_asked_once : report silence_at_lag_1 (steps one_reads_late) ≡ whole_run (steps one_reads_late)
    (idle 0 2 ∷ carries 7 (fda 1 0) 4 1 Clean 0 ∷ carries 8 (fda 1 0) 1 4 Clean 0 ∷ [])
    (running_node 11 (Failed 6 1 0 ∷ []) ∷ stopped_node 0 0 [] ∷ running_node 11 (Failed 6 1 0 ∷ []) ∷ [])
    []
unfolding life_run silence_at_lag_1 one_reads_late
found_twice_and_asked_once = refl

-- Node 0 does not get the life sign of node 1, and accuses it. All know the sign then, node 1 too,
-- which goes on to show life.
unfoldable accused : ℕ → ScenarioParts
accused omit = of_members 2 (scenario (record (soon omit) { cycle = 100; slots = 12 }) [] (slot_rule 5 (Silent (set 1)) 0 ∷ []))

accused_by_mistake : report_of (accused 1) ≡ broken_run kind.Silent 5 (steps (rounds_of 12 (codes ".012")))
    (carries 5 (els 1 0) 2 4 (Silent (set 1)) 0 ∷ carries 7 (fda 1 0) 1 6 Clean 0 ∷ carries 8 (fda 1 0) 6 1 Clean 0
    ∷ carries 10 (els 1 1) 2 5 Clean 0 ∷ [])
    (running_node 12 (Failed 6 1 0 ∷ []) ∷ running_node 12 (Failed 7 1 0 ∷ []) ∷ running_node 12 (Failed 7 1 0 ∷ []) ∷ [])
    []
unfolding life_run accused
accused_by_mistake = refl

-- where one copy is enough the sign that silence brought is sent all the same, and nobody sends it
-- after that
accused_without_omissions :
    (report_of (accused 0)).bus
    ≡ carries 5 (els 1 0) 2 4 (Silent (set 1)) 0 ∷ carries 7 (fda 1 0) 1 6 Clean 0 ∷ carries 10 (els 1 1) 2 5 Clean 0 ∷ []
unfolding life_run accused
accused_without_omissions = refl

-- ---- nodes that start again

-- Node 0 stops in slot 5, and starts again at the end of slot 10. It is no member, so it asks for
-- no life sign. It hears the others.
unfoldable stopped_and_back : ScenarioParts
stopped_and_back =
    with_restart 10 0 (of_members 7 (scenario (three 60 1 2) (send 50 1 (1 ∷ []) ∷ []) (slot_rule 5 Clean 1 ∷ [])))

restart_hears_again_with_life_signs : report_of stopped_and_back ≡ whole_run (steps (rounds_of 5 (codes ".012") ++ rounds_of 6 (codes ".12") ++ rounds_of 49 (codes ".012")))
    (idle 5 1 ∷ carries 37 (els 1 0) 2 5 Clean 0 ∷ carries 38 (els 2 0) 4 3 Clean 0 ∷ carries 51 (ed 1 0 (1 ∷ [])) 2 5 Clean 0
    ∷ carries 52 (ed 1 0 (1 ∷ [])) 5 2 Clean 0 ∷ [])
    (replicate 3 (running_node 60 (delivers 51 1 0 (1 ∷ []) ∷ [])))
    (true ∷ [])
unfolding life_run stopped_and_back
restart_hears_again_with_life_signs = refl

-- Nodes 0 and 1 stop in slot 0, and node 0 starts again at the end of this slot or of slot 6: it
-- takes part from slot 3 or 9 on.
unfoldable two_stop : ℕ → ScenarioParts
two_stop slot = with_restart slot 0 (of_members 7 (scenario (record (soon 1) { bound = 2; cycle = 100; slots = 13 }) [] (slot_rule 0 Clean 3 ∷ [])))

-- it learns both signs, one of which accuses its own number, and relays them: the life signs of
-- node 2 win over these
signs_reach_a_restarted_node : report_of (two_stop 0) ≡ whole_run (steps (codes ".2" ++ rounds_of 12 (codes ".02")))
    (idle 0 3 ∷ carries 5 (els 2 0) 4 1 Clean 0 ∷ carries 7 (fda 0 0) 4 1 Clean 0 ∷ carries 8 (fda 0 0) 1 4 Clean 0
    ∷ carries 9 (fda 1 0) 4 1 Clean 0 ∷ carries 10 (els 2 1) 4 1 Clean 0 ∷ carries 11 (fda 1 0) 1 4 Clean 0 ∷ [])
    (running_node 13 (Failed 7 0 0 ∷ Failed 9 1 0 ∷ []) ∷ stopped_node 0 0 [] ∷ running_node 13 (Failed 6 0 0 ∷ Failed 6 1 0 ∷ []) ∷ [])
    []
unfolding life_run two_stop
signs_reach_a_restarted_node = refl

-- those that were carried before it takes part are hidden from it
signs_before_it_takes_part :
    (report_of (two_stop 6)).bus ≡ idle 0 3 ∷ carries 5 (els 2 0) 4 0 Clean 0 ∷ carries 7 (fda 0 0) 4 1 Clean 0
    ∷ carries 8 (fda 1 0) 4 1 Clean 0 ∷ carries 10 (els 2 1) 4 1 Clean 0 ∷ []
unfolding life_run two_stop
signs_before_it_takes_part = refl

-- An independent simulator computed this run, at lag 1: node 0 stops in slot 32 and starts again at
-- the end of slot 37. The others find in slot 149 that it failed, though it hears again since slot
-- 112, and it learns of it. Its asks to join and to leave, which no rule reads yet, and fault rules
-- for frames that are never carried are left out.
unfoldable failed_before_it_started_again : ScenarioParts
failed_before_it_started_again =
    with_restart 37 0 (of_members 7 (scenario
    (record { format = One; nodes = 3; lag = 1; omit = 2; errors = 1; bound = 73; cycle = 178; life = 74; silence = 149; confirm = 34; slots = 176 })
    (send_tot 172 0 (204 ∷ []) ∷ send 11 2 (135 ∷ []) ∷ send_rel 18 2 (229 ∷ 60 ∷ []) ∷ send 142 1 (88 ∷ []) ∷ []) (slot_rule 32 Clean 1 ∷ [])))

unfoldable its_journal : List ℕ
its_journal =
    codes "..121200..121200..12210.210.1200.1.012.12200..11220.120.2100.210"
    ++ codes ".120.12.1200..11220.2100.21.210.2010..221100.1.2120.210.1200..12"
    ++ codes ".212.12.21.21.211..22110.120.1200.21.210.120.1200..102.211200..1"
    ++ codes "2120.120.210.210.210.1200..122100.2.2110.210.210.120.10.1220.120"
    ++ codes ".120.2100..210.11022.120.210.210.210.2100.1.12200..1102.12200..2"
    ++ codes "11200..11220.1200.12.1200..11220.210.1200..12210.1200..221100..1"
    ++ codes "1220.2100..22110.1200.1.1220.120.120.120.2100..112200..100221.12"
    ++ codes ".02.12100..1120.21200..112200..211200..21210.210.210.120.1200.1."
    ++ codes "1220.120.1200..21210.2100..221100..11220.120.210.120.1200.2.2110"
    ++ codes ".1200.12.2100.12.2100..112200..221100..21210.1200.2.21100.120..2"
    ++ codes "1120.120.210.210.1200..1210.12200..1120.1220.210.210.2100"

unfoldable two_delivered : List LogEntry
two_delivered = delivers 13 2 0 (135 ∷ []) ∷ delivers_rel 19 2 1 (229 ∷ 60 ∷ []) ∷ []

-- of the others
unfoldable their_log : List LogEntry
their_log = two_delivered ++ delivers 143 1 0 (88 ∷ []) ∷ Failed 149 0 0 ∷ []

simulated_with_a_restart : report failed_before_it_started_again (steps its_journal) ≡ whole_run (steps its_journal)
    (carries 13 (ed 2 0 (135 ∷ [])) 4 3 Clean 0 ∷ carries 14 (ed 2 0 (135 ∷ [])) 2 5 Clean 0 ∷ carries 15 (ed 2 0 (135 ∷ [])) 1 6 Clean 0
    ∷ carries 19 (rel 2 1 (229 ∷ 60 ∷ [])) 4 3 Clean 0 ∷ carries 21 (confirm 2 1) 4 3 Clean 0 ∷ idle 32 1 ∷ carries 75 (els 1 0) 2 5 Clean 0
    ∷ carries 76 (els 2 0) 4 3 Clean 0 ∷ carries 143 (ed 1 0 (88 ∷ [])) 2 5 Clean 0 ∷ carries 144 (ed 1 0 (88 ∷ [])) 5 2 Clean 0
    ∷ carries 150 (els 1 1) 2 5 Clean 0 ∷ carries 151 (els 2 1) 4 3 Clean 0 ∷ carries 152 (fda 0 0) 6 1 Clean 0 ∷ carries 153 (fda 0 0) 1 6 Clean 0
    ∷ carries 174 (tot 0 0 (204 ∷ [])) 1 6 Clean 0 ∷ [])
    (running_node 176 (delivers 143 1 0 (88 ∷ []) ∷ Failed 152 0 0 ∷ delivers_tot 174 0 0 (204 ∷ []) ∷ [])
    ∷ running_node 176 their_log ∷ running_node 176 their_log ∷ [])
    (false ∷ true ∷ true ∷ true ∷ [])
unfolding life_run failed_before_it_started_again its_journal two_delivered their_log
simulated_with_a_restart = refl

-- ---- agreement

-- the premises of agreement are met: by nodes that found the node by silence
premises_are_met :
    (let s = run silence_at_lag_1 (steps one_reads_late) in
    IsWithin silence_at_lag_1.params s.trace × ((nobody_waits_with_sign s (sign 1 0) && all_read s) ≡ true)
    × (first_carried (fda_of (sign 1 0)) s.trace ≡ Some 7) × IsCorrectFrom silence_at_lag_1 s 7 0
    × HasLoggedFailure silence_at_lag_1 s 0 (sign 1 0) × IsCorrectFrom silence_at_lag_1 s 7 2)
unfolding life_run silence_at_lag_1 one_reads_late first_carried
premises_are_met = (
  (first_break_exact silence_at_lag_1.params (run silence_at_lag_1 (steps one_reads_late)).trace).0 refl,
  refl,
  refl,
  record { correct = record { there = lit< tt; running = refl }; took_part = lit≤ tt },
  record { entry = Failed 6 1 0; stands = (0, lit< tt, refl); tells = (refl, refl) },
  record { correct = record { there = lit< tt; running = refl }; took_part = lit≤ tt },
)

-- and by one that started again
premises_are_met_after_a_restart :
    (let s = run_of (two_stop 0) in
    IsWithin (two_stop 0).params s.trace × ((nobody_waits_with_sign s (sign 0 0) && all_read s) ≡ true)
    × (first_carried (fda_of (sign 0 0)) s.trace ≡ Some 7) × IsCorrectFrom (two_stop 0) s 7 0
    × HasLoggedFailure (two_stop 0) s 0 (sign 0 0) × IsCorrectFrom (two_stop 0) s 7 2)
unfolding life_run two_stop first_carried
premises_are_met_after_a_restart = (
  (first_break_exact (two_stop 0).params (run_of (two_stop 0)).trace).0 refl,
  refl,
  refl,
  record { correct = record { there = lit< tt; running = refl }; took_part = lit≤ tt },
  record { entry = Failed 7 0 0; stands = (0, lit< tt, refl); tells = (refl, refl) },
  record { correct = record { there = lit< tt; running = refl }; took_part = lit≤ tt },
)

nine-is-above-7 : 9 ≤ 7 → ⊥
nine-is-above-7 below = omega (arith, below)

-- one that takes part only later need not know the sign, and does not
not_met_of_an_earlier_sign :
    (let s = run_of (two_stop 6) in
    ((nobody_waits_with_sign s (sign 0 0) && all_read s) ≡ true) × (first_carried (fda_of (sign 0 0)) s.trace ≡ Some 7)
    × (IsCorrectFrom (two_stop 6) s 7 0 → ⊥) × (log (two_stop 6) s 0 ≡ []) × (log (two_stop 6) s 2 ≡ Failed 6 0 0 ∷ Failed 6 1 0 ∷ []))
unfolding life_run two_stop first_carried
not_met_of_an_earlier_sign = (refl, refl, λ correct. nine-is-above-7 correct.took_part, refl, refl)

-- While one node alone knows a sign, its frame waits or a copy of it is not read: the premises ask
-- for neither.
unfoldable one_knows : List ℕ
one_knows = rounds_of 6 (codes ".02") ++ codes ".2"

while_a_frame_waits :
    (let s = run silence_at_lag_1 (steps one_knows) in
    (first_carried (fda_of (sign 1 0)) s.trace ≡ None) × (nobody_waits_with_sign s (sign 1 0) ≡ false)
    × (log silence_at_lag_1 s 0 ≡ []) × (log silence_at_lag_1 s 2 ≡ Failed 6 1 0 ∷ []))
unfolding life_run silence_at_lag_1 one_knows first_carried
while_a_frame_waits = (refl, refl, refl, refl)

while_a_copy_is_not_read :
    (let s = run silence_at_lag_1 (steps (one_knows ++ codes ".")) in
    (first_carried (fda_of (sign 1 0)) s.trace ≡ Some 7) × (nobody_waits_with_sign s (sign 1 0) ≡ true) × (all_read s ≡ false)
    × (log silence_at_lag_1 s 0 ≡ []))
unfolding life_run silence_at_lag_1 one_knows first_carried
while_a_copy_is_not_read = (refl, refl, refl, refl)

-- ---- single turns, in cycles of 10 slots

-- of node 0, where these are members
unfoldable signs : ℕ → ℕ → List NoticeKind → List Effect
unfolding report
signs omit members past = failure_effects (of_members members (scenario (soon omit) [] [])) 0 past

unfoldable asks : ℕ → List NoticeKind → List Effect
unfolding report
asks members past = life_effects (of_members members (scenario (soon 1) [] [])) 0 past

unfoldable idle_slots : ℕ → List NoticeKind
idle_slots n = replicate n Idle

unfoldable found : ℕ → ℕ → ℕ → List Effect
found slot node cycle = Enter (Failed slot node cycle) ∷ Ask (fda node cycle) ∷ []

unfoldable start : Knowledge
start = knowledge_at_first (set 7)

-- the slot of the node's own last life, and those in which nodes 0, 1 and 2 last showed life
unfoldable lives : Knowledge → List ℕ
lives st = st.last ∷ map st.shown (0 ∷ 1 ∷ 2 ∷ [])

pub record Known : Type 0 where
  pub members : Nodes
  pub failed : Nodes
  pub signs : List FailureSign
  pub lives : List ℕ

unfoldable known : Knowledge → Known
known st = record { members = st.members; failed = st.failed; signs = st.signs; lives = lives st }

unfoldable before_admission : Knowledge
before_admission = record { members = set 5; failed = set 6; signs = sign 2 1 ∷ sign 1 1 ∷ []; shown = λ r. r; last = 3; joiners = set 0; leavers = set 0; vector = None }

-- node 1 was found in slot 6, and is admitted in slot 7: cycles have 15 slots
unfoldable after_failure : Knowledge
after_failure = after_admitting 0 7 (set 2) (knowledge_of (of_members 2 (scenario (record (soon 1) { cycle = 15 }) [] [])) 0 (replicate 7 Idle))

-- opens all that a turn here is written with
unfoldable life_turn : Unit {0}
unfolding life_run signs asks idle_slots found start lives known before_admission after_failure
life_turn = tt

-- ---- life signs

due_in_one_slot : map (λ slots. asks 7 (idle_slots slots)) (0 ∷ 4 ∷ 5 ∷ 6 ∷ []) ≡ [] ∷ [] ∷ (Ask (els 0 0) ∷ []) ∷ [] ∷ []
unfolding life_turn
due_in_one_slot = refl

-- the next one, after the first was sent in slot 5
due_after_the_last : map (λ slots. asks 7 (idle_slots slots ++ Sent (els 0 0) ∷ idle_slots 5)) (3 ∷ 4 ∷ 5 ∷ []) ≡ [] ∷ (Ask (els 0 1) ∷ []) ∷ [] ∷ []
unfolding life_turn
due_after_the_last = refl

-- a message of its own by TOTCAN shows life too, and takes no number; one by EDCAN does not
own_message_shows_life :
    map (λ f. map (λ slots. asks 7 (idle_slots slots ++ Sent f ∷ idle_slots 2)) (2 ∷ 4 ∷ [])) (first_tot ∷ ed 0 0 [] ∷ [])
    ≡ ([] ∷ (Ask (els 0 0) ∷ []) ∷ []) ∷ ((Ask (els 0 0) ∷ []) ∷ [] ∷ []) ∷ []
unfolding life_turn
own_message_shows_life = refl

-- what was got of another node, or of its own in an earlier life, and a slot that was bad, change
-- nothing
got_life_is_not_its_own : map (λ e. asks 7 (idle_slots 2 ++ e ∷ idle_slots 2)) (Got (els 1 0) ∷ Got (els 0 3) ∷ Sent (tot 1 0 []) ∷ Bad ∷ [])
    ≡ (Ask (els 0 0) ∷ []) ∷ (Ask (els 0 0) ∷ []) ∷ (Ask (els 0 0) ∷ []) ∷ (Ask (els 0 0) ∷ []) ∷ []
unfolding life_turn
got_life_is_not_its_own = refl

no_member_shows_no_life : asks 6 (idle_slots 5) ≡ []
unfolding life_turn
no_member_shows_no_life = refl

-- in the slot in which it is due the node reads that it has shown life by another frame: it is due
-- again 4 slots later
shown_as_it_is_due : map (λ slots. asks 7 (idle_slots slots ++ Sent first_tot ∷ idle_slots 4)) (0 ∷ 3 ∷ 4 ∷ []) ≡ [] ∷ [] ∷ (Ask (els 0 0) ∷ []) ∷ []
unfolding life_turn
shown_as_it_is_due = refl

-- one that is accused shows life all the same
accused_node_shows_life : asks 7 (Got (fda 0 0) ∷ idle_slots 4) ≡ Ask (els 0 0) ∷ []
unfolding life_turn
accused_node_shows_life = refl

-- its number counts its own life signs alone
numbers_count_own_signs :
    map (λ e. asks 7 (idle_slots 4 ++ Sent (els 0 5) ∷ e ∷ Sent (els 0 2) ∷ []))
    (Sent (els 1 3) ∷ Got (els 0 3) ∷ Sent (els 0 3) ∷ Sent first_tot ∷ [])
    ≡ (Ask (els 0 2) ∷ []) ∷ (Ask (els 0 2) ∷ []) ∷ (Ask (els 0 3) ∷ []) ∷ (Ask (els 0 2) ∷ []) ∷ []
unfolding life_turn
numbers_count_own_signs = refl

-- The one that was asked for in slot 4 still waits when the message is sent in slot 5: in slot 9 it
-- is asked for again, under its number.
asked_twice_under_one_number : map (asks 7) (idle_slots 5 ∷ (idle_slots 4 ++ Sent first_tot ∷ idle_slots 5) ∷ []) ≡ replicate 2 (Ask (els 0 0) ∷ [])
unfolding life_turn
asked_twice_under_one_number = refl

-- life signs tell the incarnation, failure signs do not
life_sign_tells_the_incarnation :
    (let sc = record (of_members 7 (scenario (soon 1) [] [])) { inc = 3 } in life_effects sc 0 (idle_slots 5) ++ failure_effects sc 0 (idle_slots 7))
    ≡ Ask (record (els 0 0) { inc = 3 }) ∷ found 6 1 0 ++ found 6 2 0
unfolding life_turn
life_sign_tells_the_incarnation = refl

-- ---- what shows life

-- by class: these lives of a vector, a life sign and a TOTCAN message, and none of the others
abbrev of_these_classes : List ℕ → List (List ℕ)
of_these_classes shown =
    let none : List ℕ = replicate 4 0 in
    none ∷ shown ∷ shown ∷ none ∷ none ∷ none ∷ none ∷ shown ∷ none ∷ none ∷ []

-- of another node, in slot 5
shown_by_class : map (λ c. lives (after_life 0 5 (Got (named c 1)) start)) classes ≡ of_these_classes (0 ∷ 0 ∷ 5 ∷ 0 ∷ [])
unfolding life_turn
shown_by_class = refl

-- of the node itself the same, as it reads that it has sent them
last_by_class : map (λ c. lives (after_life 1 5 (Sent (named c 1)) start)) classes ≡ of_these_classes (5 ∷ 0 ∷ 0 ∷ 0 ∷ [])
unfolding life_turn
last_by_class = refl

-- what it sent for another, and a slot without a frame for it, show no life
no_life_shown : map (λ e. lives (after_life 1 5 e start)) (Idle ∷ Bad ∷ Sent (els 2 0) ∷ []) ≡ replicate 3 (replicate 4 0)
unfolding life_turn
no_life_shown = refl

-- ---- a node that is admitted

-- It has not failed then, and shows life; of the node itself it is the last life too. What is known
-- stays known, and the members are not changed yet.
admitted_node_lives :
    map (λ newly. known (after_admitting 0 9 (set newly) before_admission)) (2 ∷ 3 ∷ 0 ∷ [])
    ≡ record { members = set 5; failed = set 4; signs = sign 2 1 ∷ sign 1 1 ∷ []; lives = 3 ∷ 0 ∷ 9 ∷ 2 ∷ [] }
    ∷ record { members = set 5; failed = set 4; signs = sign 2 1 ∷ sign 1 1 ∷ []; lives = 9 ∷ 9 ∷ 9 ∷ 2 ∷ [] }
    ∷ record { members = set 5; failed = set 6; signs = sign 2 1 ∷ sign 1 1 ∷ []; lives = 3 ∷ 0 ∷ 1 ∷ 2 ∷ [] } ∷ []
unfolding life_turn
admitted_node_lives = refl

-- A sign that is known has no effect again in its cycle, neither by silence nor by a copy, though
-- the node has not failed any more. One of the next cycle has: it begins in slot 15.
known_sign_has_no_effect_again :
    map (λ slot. found_by_silence (record (soon 1) { cycle = 15 }) 0 slot after_failure) (12 ∷ 13 ∷ 14 ∷ 15 ∷ [])
    ≡ [] ∷ [] ∷ [] ∷ (sign 1 1 ∷ []) ∷ []
unfolding life_turn
known_sign_has_no_effect_again = refl

known_sign_is_not_told_again : map (λ cycle. told (Got (fda 1 cycle)) after_failure) (0 ∷ 1 ∷ []) ≡ [] ∷ (sign 1 1 ∷ []) ∷ []
unfolding life_turn
known_sign_is_not_told_again = refl

-- ---- silence

silent_for_long_enough : map (λ slots. signs 1 7 (idle_slots slots)) (0 ∷ 6 ∷ 7 ∷ 8 ∷ []) ≡ [] ∷ [] ∷ (found 6 1 0 ++ found 6 2 0) ∷ [] ∷ []
unfolding life_turn
silent_for_long_enough = refl

-- one that showed life in slot 3 is found three slots later than the other, in slot 9
life_that_is_shown :
    map (λ f. map (λ slots. signs 1 7 (idle_slots slots ++ Got f ∷ idle_slots 3)) (3 ∷ 5 ∷ 6 ∷ [])) (els 1 0 ∷ tot 1 0 [] ∷ [])
    ≡ (found 6 2 0 ∷ [] ∷ found 9 1 0 ∷ []) ∷ (found 6 2 0 ∷ [] ∷ found 9 1 0 ∷ []) ∷ []
unfolding life_turn
life_that_is_shown = refl

-- a frame that other nodes send too shows none
frames_that_show_no_life : map (λ f. signs 1 7 (idle_slots 3 ++ Got f ∷ idle_slots 3)) (ed 1 0 [] ∷ first_accept ∷ [])
    ≡ (found 6 1 0 ++ found 6 2 0) ∷ (found 6 1 0 ++ found 6 2 0) ∷ []
unfolding life_turn
frames_that_show_no_life = refl

others_of_the_members_alone : map (λ members. signs 1 members (idle_slots 7)) (0 ∷ 1 ∷ 4 ∷ []) ≡ [] ∷ [] ∷ found 6 2 0 ∷ []
unfolding life_turn
others_of_the_members_alone = refl

-- the cycle is that of the slot: node 1 was heard last in slot 7, so it is found in slot 13
found_in_the_next_cycle : signs 1 2 (idle_slots 6 ++ Got (els 1 1) ∷ Idle ∷ Got (els 1 0) ∷ idle_slots 5) ≡ found 13 1 1
unfolding life_turn
found_in_the_next_cycle = refl

-- life that is shown in the very slot in which silence would be found
shown_just_in_time : map (λ f. signs 1 2 (Got f ∷ idle_slots 6)) (els 1 0 ∷ tot 1 0 [] ∷ els 2 0 ∷ []) ≡ [] ∷ [] ∷ found 6 1 0 ∷ []
unfolding life_turn
shown_just_in_time = refl

-- one that has failed is not found again, in this cycle or a later one
failed_once : map (λ slots. signs 1 2 (idle_slots slots)) (9 ∷ 11 ∷ 17 ∷ 25 ∷ []) ≡ [] ∷ [] ∷ [] ∷ [] ∷ []
unfolding life_turn
failed_once = refl

-- of two that failed in one slot, and of two that failed one after the other, neither is found
-- again
both_failed_once :
    map (λ slots. signs 1 7 (idle_slots slots)) (9 ∷ 11 ∷ 17 ∷ [])
    ++ map (λ slots. signs 1 7 (idle_slots slots ++ Got (els 1 0) ∷ idle_slots 3)) (7 ∷ 13 ∷ [])
    ≡ replicate 5 []
unfolding life_turn
both_failed_once = refl

-- ---- signs in a notice

told_by_a_copy : signs 1 7 (Got (fda 2 0) ∷ Idle ∷ []) ≡ found 1 2 0
unfolding life_turn
told_by_a_copy = refl

-- with more than omit copies it is withdrawn, at each
enough_copies :
    map (λ copies. signs 1 7 (replicate copies (Got (fda 2 3)))) (2 ∷ 3 ∷ 4 ∷ []) ≡ replicate 3 (Withdraw (identity_of (fda 2 3)) ∷ [])
unfolding life_turn
enough_copies = refl

-- at a copy in between nothing is done; what the node sent is no copy, and brings no withdrawal
copies_in_between :
    map (signs 2 7)
    ((Got (fda 2 0) ∷ Got (fda 2 0) ∷ []) ∷ (Got (fda 2 0) ∷ Sent (fda 2 0) ∷ Got (fda 2 0) ∷ [])
    ∷ (Got (fda 2 0) ∷ Got (fda 2 0) ∷ Got (fda 2 0) ∷ []) ∷ (Sent (fda 2 0) ∷ Got (fda 2 0) ∷ Got (fda 2 0) ∷ Got (fda 2 0) ∷ []) ∷ [])
    ≡ [] ∷ [] ∷ (Withdraw (identity_of (fda 2 0)) ∷ []) ∷ [] ∷ []
unfolding life_turn
copies_in_between = refl

-- copies of the sign of another node or cycle do not count for it
copies_of_other_signs : map (λ f. signs 1 7 (Got (fda 2 0) ∷ Got f ∷ [])) (fda 2 1 ∷ fda 1 0 ∷ []) ≡ found 1 2 0 ∷ found 1 2 0 ∷ []
unfolding life_turn
copies_of_other_signs = refl

-- a sign stays known when others become known after it
each_sign_stays_known :
    map (signs 2 7) ((Got (fda 1 0) ∷ Got (fda 2 0) ∷ Got (fda 1 0) ∷ []) ∷ (Got (fda 1 0) ∷ idle_slots 7) ∷ (Got (fda 2 0) ∷ idle_slots 7) ∷ [])
    ≡ replicate 3 []
unfolding life_turn
each_sign_stays_known = refl

-- only failure signs tell of one, and are withdrawn: at a first copy of each class, and at a second
-- one
signs_by_class :
    map (λ past. map (λ c. signs 1 0 (map (λ node. Got (named c node)) past)) classes) ((1 ∷ []) ∷ (1 ∷ 1 ∷ []) ∷ [])
    ≡ ([] ∷ [] ∷ [] ∷ found 0 1 0 ∷ [] ∷ [] ∷ [] ∷ [] ∷ [] ∷ [] ∷ [])
    ∷ ([] ∷ [] ∷ [] ∷ (Withdraw (identity_of (fda 1 0)) ∷ []) ∷ [] ∷ [] ∷ [] ∷ [] ∷ [] ∷ [] ∷ []) ∷ []
unfolding life_turn
signs_by_class = refl

-- where one copy is enough it is never asked for on account of one
one_copy_is_enough : signs 0 7 (Got (fda 2 3) ∷ []) ≡ Enter (Failed 0 2 3) ∷ Withdraw (identity_of (fda 2 3)) ∷ []
unfolding life_turn
one_copy_is_enough = refl

-- a sign that silence brought is not asked for again at its first copy, and one that a copy brought
-- is not found
known_by_silence : signs 1 2 (Got (fda 1 0) ∷ idle_slots 7) ∷ signs 0 2 (idle_slots 7) ∷ [] ≡ [] ∷ found 6 1 0 ∷ []
unfolding life_turn
known_by_silence = refl

-- it is withdrawn with enough copies, as any other
withdrawn_after_silence : signs 1 2 (Got (fda 1 0) ∷ Got (fda 1 0) ∷ idle_slots 7) ≡ Withdraw (identity_of (fda 1 0)) ∷ []
unfolding life_turn
withdrawn_after_silence = refl

found_after_it_was_told : signs 1 2 (idle_slots 6 ++ Got (fda 1 0) ∷ []) ≡ []
unfolding life_turn
found_after_it_was_told = refl

-- the sign in the notice comes first: node 2 has failed then, though it was silent for long enough
-- in this very slot
notice_before_silence : signs 1 7 (Got (fda 2 3) ∷ idle_slots 6) ≡ found 6 2 3 ++ found 6 1 0
unfolding life_turn
notice_before_silence = refl

-- it stands before the other among the signs that are known
known_after_both :
    known (knowledge_of (of_members 7 (scenario (soon 1) [] [])) 0 (Got (fda 2 3) ∷ idle_slots 6))
    ≡ record { members = set 7; failed = set 6; signs = sign 1 0 ∷ sign 2 3 ∷ []; lives = replicate 4 0 }
unfolding life_turn
known_after_both = refl

-- a copy of a known sign is withdrawn before another sign is found
copy_before_silence : signs 1 6 (Got (fda 2 0) ∷ Got (fda 2 0) ∷ idle_slots 5) ≡ Withdraw (identity_of (fda 2 0)) ∷ found 6 1 0
unfolding life_turn
copy_before_silence = refl

-- signs of one node in two cycles are two signs
signs_of_two_cycles : signs 1 7 (Got (fda 2 1) ∷ Got (fda 2 0) ∷ []) ≡ found 1 2 1
unfolding life_turn
signs_of_two_cycles = refl

-- a sign may name the node itself, or one that is no member; the node's own transmission tells it
-- nothing
signs_of_any_node :
    signs 1 7 (Got (fda 0 0) ∷ []) ∷ signs 1 3 (Got (fda 2 0) ∷ []) ∷ signs 1 7 (Sent (fda 2 0) ∷ []) ∷ [] ≡ found 0 0 0 ∷ found 0 2 0 ∷ [] ∷ []
unfolding life_turn
signs_of_any_node = refl

-- ---- a whole turn

-- The life sign comes after the failure signs, and before what is scripted. A node without members,
-- as one that starts again, asks for that alone.
order_of_a_turn :
    map (λ members. turn_effects (of_members members (scenario (record (soon 1) { life = 6 }) (send 6 0 [] ∷ []) [])) 0 (idle_slots 7)) (7 ∷ 0 ∷ [])
    ≡ (found 6 1 0 ++ found 6 2 0 ++ Ask (els 0 0) ∷ Ask (ed 0 0 []) ∷ []) ∷ (Ask (ed 0 0 []) ∷ []) ∷ []
unfolding life_turn
order_of_a_turn = refl

-- In slot 6 node 0 gets an EDCAN message; a RELCAN timer and a TOTCAN closing are due; nodes 1 and
-- 2 are silent; its life sign is due, and two sends are scripted.
order_of_a_full_turn :
    turn_effects
    (of_members 7 (scenario (record (soon 1) { bound = 6; life = 6; confirm = 5 }) (send_tot 6 0 [] ∷ send 6 0 [] ∷ []) [])) 0
    (Got (ed 1 0 []) ∷ idle_slots 4 ++ Got (rel 2 0 []) ∷ Got (tot 1 0 []) ∷ [])
    ≡ Enter (delivers 6 1 0 []) ∷ Ask (ed 1 0 []) ∷ Ask (rel 2 0 []) ∷ Withdraw (identity_of (accept 1 0)) ∷ found 6 1 0 ++ found 6 2 0
    ++ Ask (els 0 0) ∷ Ask (ed 0 1 []) ∷ Ask (tot 0 0 []) ∷ []
unfolding life_turn
order_of_a_full_turn = refl

-- ---- what a node that started again does

unfoldable third : Incarnation
third = record { number = 2; since = 1; from = 3; cycle = 1 }

unfoldable all_members : ScenarioParts
all_members = of_members 7 (scenario (soon 1) [] [])

-- it is no member, and some of its frames tell its number
followed_by_an_incarnation :
    map (scenario_for all_members) (original ∷ third ∷ []) ≡ all_members ∷ record (of_members 0 all_members) { from = 3; inc = 2 } ∷ []
unfolding life_turn third all_members
followed_by_an_incarnation = refl

-- So it asks for no life sign, in slot 4, and finds nobody, in slot 6. A sign that is told to it
-- becomes known.
restarted_node_hears_alone :
    map (effects_for 2 all_members third 0) (idle_slots 5 ∷ idle_slots 7 ∷ (Got (fda 2 0) ∷ idle_slots 6) ∷ []) ≡ [] ∷ [] ∷ found 6 2 0 ∷ []
unfolding life_turn third all_members
restarted_node_hears_alone = refl

-- the incarnation of the opening does both
the_first_one_does_both :
    map (effects_for 0 all_members original 0) (idle_slots 5 ∷ idle_slots 7 ∷ []) ≡ (Ask (els 0 0) ∷ []) ∷ (found 6 1 0 ++ found 6 2 0) ∷ []
unfolding life_turn all_members
the_first_one_does_both = refl
