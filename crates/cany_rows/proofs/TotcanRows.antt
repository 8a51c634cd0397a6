-- Worked rows of TOTCAN.
use Rattle.std.specs.Prelude.{ℕ, ◌≡◌, ◌++◌, true, false, List, [], ◌∷◌, map, replicate, refl, codes}
use Rattle.std.specs.List.{concat}
use Rattle.cany_base.specs.declared.format.Format.TheVariants.{One}
use Rattle.cany_base.specs.declared.log_entry.LogEntry.{LogEntry}
use Rattle.cany_base.specs.declared.rule.Verdict.TheVariants.{Clean, Partial, Silent}
use Rattle.cany_base.specs.Params.{Parameters}
use Rattle.cany_base.specs.Scenario.{ScenarioParts}
use Rattle.cany_model.specs.declared.breaks.BreakKind.TheVariants as kind
use Rattle.cany_rows.proofs.RowWords.{broken_run, accept, carries, confirm, delivers, delivers_rel, delivers_tot, ed, first_accept, first_tot, one_tot, rel, report, row, scenario, send, send_rel, send_tot, set, slot_rule, steps, three, tot, running_node, stopped_node, whole_run, report_of}

unfoldable delivered : ℕ → List LogEntry
delivered slot = delivers_tot slot 0 0 (1 ∷ []) ∷ []

-- three nodes, with so long a life interval that no life sign comes in the run
unfoldable three_without_life_signs : ℕ → Parameters
three_without_life_signs slots = record (three slots 1 2) { life = 60; silence = 97 }

-- so many rounds of the same steps
unfoldable rounds_of : ℕ → List ℕ → List ℕ
rounds_of n round = concat (replicate n round)

-- The sender stops after only node 1 accepted its frame. Nobody accepts the message, and node 1
-- drops it in slot 37.
unfoldable sender_stops_after_partial : ℕ → ScenarioParts
sender_stops_after_partial slots = scenario (three_without_life_signs slots) one_tot (slot_rule 1 (Partial (set 4)) 1 ∷ [])

totcan_unaccepted_is_dropped :
    report_of (sender_stops_after_partial 45) ≡ whole_run (steps (codes ".012" ++ rounds_of 44 (codes ".12")))
    (carries 1 first_tot 1 2 (Partial (set 4)) 1 ∷ [])
    (stopped_node 1 1 [] ∷ running_node 45 [] ∷ running_node 45 [] ∷ [])
    (true ∷ [])
unfolding row sender_stops_after_partial three_without_life_signs rounds_of
totcan_unaccepted_is_dropped = refl

-- the closing is ahead so long as slot 37 is not read
settled_at_the_closing :
    map (λ slots. (report_of (sender_stops_after_partial slots)).settled) (37 ∷ 38 ∷ [])
    ≡ (false ∷ []) ∷ (true ∷ []) ∷ []
unfolding row sender_stops_after_partial three_without_life_signs
settled_at_the_closing = refl

-- the sender stops after only node 1 accepted the frame that accepts the message: node 1 sends it
-- again, and node 2 too
unfoldable accept_is_partial : ScenarioParts
accept_is_partial = scenario (three_without_life_signs 45) one_tot (slot_rule 2 (Partial (set 4)) 1 ∷ [])

totcan_accept_survives_its_sender :
    report_of accept_is_partial ≡ whole_run (steps (codes ".012.012" ++ rounds_of 43 (codes ".12")))
    (carries 1 first_tot 1 6 Clean 0 ∷ carries 2 first_accept 1 2 (Partial (set 4)) 1 ∷ carries 3 first_accept 2 4 Clean 0
    ∷ carries 4 first_accept 4 2 Clean 0 ∷ [])
    (stopped_node 2 2 (delivered 1) ∷ running_node 45 (delivered 2) ∷ running_node 45 (delivered 3) ∷ [])
    (true ∷ [])
unfolding row delivered accept_is_partial three_without_life_signs rounds_of
totcan_accept_survives_its_sender = refl

-- The message of node 1 reaches node 0 first in a Partial slot. Its later copy moves the place at
-- node 0, so that all deliver the message of node 0 before it. Both closings lie ahead at the end.
totcan_late_copy_moves_the_place :
    (let early = tot 1 0 (10 ∷ []) in
    let late = tot 0 0 (11 ∷ []) in
    let s = scenario (three 10 1 2) (send_tot 0 1 (10 ∷ []) ∷ send_tot 1 0 (11 ∷ []) ∷ []) (slot_rule 1 (Partial (set 4)) 0 ∷ []) in
    report_of s ≡ whole_run (steps (codes ".012.012.012.012.012.012.012.012.012.012"))
    (carries 1 early 2 1 (Partial (set 4)) 0 ∷ carries 2 late 1 6 Clean 0 ∷ carries 3 (accept 0 0) 1 6 Clean 0
    ∷ carries 4 (accept 0 0) 6 1 Clean 0 ∷ carries 5 early 2 5 Clean 0 ∷ carries 6 (accept 1 0) 2 5 Clean 0
    ∷ carries 7 (accept 1 0) 5 2 Clean 0 ∷ [])
    (running_node 10 (delivers_tot 5 0 0 (11 ∷ []) ∷ delivers_tot 6 1 0 (10 ∷ []) ∷ [])
    ∷ running_node 10 (delivers_tot 3 0 0 (11 ∷ []) ∷ delivers_tot 5 1 0 (10 ∷ []) ∷ [])
    ∷ running_node 10 (delivers_tot 3 0 0 (11 ∷ []) ∷ delivers_tot 6 1 0 (10 ∷ []) ∷ []) ∷ [])
    (false ∷ false ∷ []))
unfolding row
totcan_late_copy_moves_the_place = refl

-- Outside the hypothesis: the sender is content although node 2 rejects, and node 2 never has the
-- message, which is settled.
unfoldable silent_to_node_2 : ScenarioParts
silent_to_node_2 = scenario (three_without_life_signs 45) one_tot (slot_rule 1 (Silent (set 4)) 0 ∷ [])

silent_omission_is_outside :
    report_of silent_to_node_2 ≡ broken_run kind.Silent 1 (steps (rounds_of 45 (codes ".012")))
    (carries 1 first_tot 1 2 (Silent (set 4)) 0 ∷ carries 2 first_accept 1 6 Clean 0 ∷ carries 3 first_accept 2 5 Clean 0 ∷ [])
    (running_node 45 (delivered 1) ∷ running_node 45 (delivered 2) ∷ running_node 45 [] ∷ [])
    (true ∷ [])
unfolding row delivered silent_to_node_2 three_without_life_signs rounds_of
silent_omission_is_outside = refl

-- an ordinary scenario: the message by TOTCAN is open at the end, since its closing lies ahead
three_services :
    (let p : Parameters = record { format = One; nodes = 4; lag = 0; omit = 1; errors = 2; bound = 59; cycle = 118; life = 59; silence = 119; confirm = 10; slots = 20 } in
    let log : ℕ → List LogEntry = λ first. delivers_tot first 0 0 (192 ∷ 1 ∷ []) ∷ delivers_rel 4 1 0 (34 ∷ []) ∷ delivers 6 3 0 (51 ∷ []) ∷ [] in
    let s = scenario p (send_tot 0 0 (192 ∷ 1 ∷ []) ∷ send_rel 0 1 (34 ∷ []) ∷ send 0 3 (51 ∷ []) ∷ []) [] in
    report_of s ≡ whole_run (steps (rounds_of 20 (codes ".0123")))
    (carries 1 (tot 0 0 (192 ∷ 1 ∷ [])) 1 14 Clean 0 ∷ carries 2 (accept 0 0) 1 14 Clean 0 ∷ carries 3 (accept 0 0) 14 1 Clean 0
    ∷ carries 4 (rel 1 0 (34 ∷ [])) 2 13 Clean 0 ∷ carries 5 (confirm 1 0) 2 13 Clean 0
    ∷ carries 6 (ed 3 0 (51 ∷ [])) 8 7 Clean 0 ∷ carries 7 (ed 3 0 (51 ∷ [])) 7 8 Clean 0 ∷ [])
    (running_node 20 (log 1) ∷ running_node 20 (log 2) ∷ running_node 20 (log 2) ∷ running_node 20 (log 2) ∷ [])
    (false ∷ true ∷ true ∷ []))
unfolding row rounds_of
three_services = refl

-- ---- the backlog

-- Two messages of one origin, both scripted for slot 0. The first is sent in slot 1, so the second
-- is asked for in slot 37.
unfoldable two_of_one_origin : ℕ → ScenarioParts
two_of_one_origin slots = scenario (three_without_life_signs slots) (send_tot 0 0 (1 ∷ []) ∷ send_tot 0 0 (2 ∷ []) ∷ []) []

second_waits_in_the_backlog :
    (let s = two_of_one_origin 42 in
    let second = tot 0 1 (2 ∷ []) in
    let log : ℕ → ℕ → List LogEntry = λ a b. delivers_tot a 0 0 (1 ∷ []) ∷ delivers_tot b 0 1 (2 ∷ []) ∷ [] in
    report_of s ≡ whole_run (steps (rounds_of 42 (codes ".012")))
    (carries 1 first_tot 1 6 Clean 0 ∷ carries 2 first_accept 1 6 Clean 0 ∷ carries 3 first_accept 6 1 Clean 0
    ∷ carries 38 second 1 6 Clean 0 ∷ carries 39 (accept 0 1) 1 6 Clean 0 ∷ carries 40 (accept 0 1) 6 1 Clean 0 ∷ [])
    (running_node 42 (log 1 38) ∷ running_node 42 (log 2 39) ∷ running_node 42 (log 2 39) ∷ [])
    (true ∷ false ∷ []))
unfolding row two_of_one_origin three_without_life_signs rounds_of
second_waits_in_the_backlog = refl

-- one that waits in the backlog is open, though nobody waits with its frames and nothing of it lies
-- ahead, until its origin stops
unfoldable origin_stops : ℕ → ScenarioParts
origin_stops stop = scenario (three_without_life_signs 10) (send_tot 0 0 (1 ∷ []) ∷ send_tot 0 0 (2 ∷ []) ∷ []) (slot_rule 9 Clean stop ∷ [])

open_in_the_backlog :
    map (λ stop. (report_of (origin_stops stop)).settled) (0 ∷ 1 ∷ []) ≡ (false ∷ false ∷ []) ∷ (false ∷ true ∷ []) ∷ []
unfolding row origin_stops three_without_life_signs
open_in_the_backlog = refl

-- Node 0 stops in slot 2, starts again, and takes part from slot 5 on. Of its three messages the
-- first was sent before; the second waited in the backlog, and is lost with it; the third is asked
-- for at once, in slot 5.
unfoldable origin_starts_again : ℕ → ScenarioParts
origin_starts_again slots =
    record (scenario (record (three slots 1 2) { bound = 2 }) (send_tot 0 0 (1 ∷ []) ∷ send_tot 0 0 (2 ∷ []) ∷ send_tot 5 0 (3 ∷ []) ∷ [])
    (slot_rule 2 Clean 1 ∷ [])) { restarts = record { slot = 2; node = 0 } ∷ [] }

backlog_of_an_earlier_incarnation :
    (let s = origin_starts_again 8 in
    let third = tot 0 2 (3 ∷ []) in
    report_of s ≡ whole_run (steps (codes ".012.012.12.012.012.012.012.012"))
    (carries 1 first_tot 1 6 Clean 0 ∷ carries 2 first_accept 1 6 Clean 1 ∷ carries 3 first_accept 6 1 Clean 0
    ∷ carries 6 third 1 6 Clean 0 ∷ carries 7 (accept 0 2) 1 6 Clean 0 ∷ [])
    (running_node 8 (delivers_tot 6 0 2 (3 ∷ []) ∷ []) ∷ running_node 8 (delivers_tot 2 0 0 (1 ∷ []) ∷ delivers_tot 7 0 2 (3 ∷ []) ∷ [])
    ∷ running_node 8 (delivers_tot 2 0 0 (1 ∷ []) ∷ delivers_tot 7 0 2 (3 ∷ []) ∷ []) ∷ [])
    (true ∷ true ∷ false ∷ []))
unfolding row origin_starts_again
backlog_of_an_earlier_incarnation = refl

-- ---- lag

-- Node 3 reads one slot behind the others. It alone gets the frame that accepts the message from
-- the sender, which stops, and reads it in time.
unfoldable late_reader : ScenarioParts
late_reader =
    scenario (record { format = One; nodes = 4; lag = 1; omit = 1; errors = 2; bound = 122; cycle = 246; life = 140; silence = 264; confirm = 10; slots = 140 })
    one_tot (slot_rule 2 (Partial (set 6)) 1 ∷ [])

unfoldable one_behind : List ℕ
one_behind = codes ".012.0123" ++ rounds_of 138 (codes ".123") ++ codes "3"

totcan_accept_under_lag : report late_reader (steps one_behind) ≡ whole_run (steps one_behind)
    (carries 1 first_tot 1 14 Clean 0 ∷ carries 2 first_accept 1 8 (Partial (set 6)) 1 ∷ carries 4 first_accept 8 6 Clean 0
    ∷ carries 5 first_accept 6 8 Clean 0 ∷ [])
    (stopped_node 2 2 (delivered 1) ∷ running_node 140 (delivered 4)
    ∷ running_node 140 (delivered 4) ∷ running_node 140 (delivered 2) ∷ [])
    (true ∷ [])
unfolding row delivered late_reader one_behind rounds_of
totcan_accept_under_lag = refl
