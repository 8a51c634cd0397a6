-- The worked runs that the scenarios of this repository show.
use Rattle.std.specs.Prelude.{ℕ, zero, suc, ◌≡◌, ◌+◌, true, List, [], ◌∷◌, ◌++◌, replicate, refl, codes}
use Rattle.cany_base.specs.declared.format.Format.TheVariants.{One}
use Rattle.cany_base.specs.declared.rule.Rule.{Rule}
use Rattle.cany_base.specs.declared.rule.Verdict.TheVariants.{Clean, Lost, Partial}
use Rattle.cany_base.specs.declared.slot_note.SlotNote.{SlotNote}
use Rattle.cany_base.specs.Params.{Parameters}
use Rattle.cany_model.specs.declared.breaks.BreakKind.TheVariants as kind
use Rattle.cany_rows.proofs.RowWords.{broken_run, carries, delivered, first_frame, one_message, report, row, scenario, set, slot_rule, steps, three, running_node, stopped_node, whole_run, report_of}

-- one message, no fault: all deliver it, and the others relay it together
one_message_no_fault :
    report_of (scenario (three 5 1 2) one_message []) ≡ whole_run (steps (codes ".012.012.012.012.012"))
    (carries 1 first_frame 1 6 Clean 0 ∷ carries 2 first_frame 6 1 Clean 0 ∷ [])
    (replicate 3 (running_node 5 (delivered 1)))
    (true ∷ [])
unfolding row
one_message_no_fault = refl

nothing_sent :
    report_of (scenario (three 1 1 2) [] []) ≡ whole_run (steps (codes ".012"))
    []
    (replicate 3 (running_node 1 []))
    []
unfolding row
nothing_sent = refl

-- the sender stops after only node 1 accepted its frame: node 1 relays it
edcan_sender_stops_after_partial :
    report_of (scenario (three 6 1 2) one_message (slot_rule 1 (Partial (set 4)) 1 ∷ [])) ≡ whole_run (steps (codes ".012.12.12.12.12.12"))
    (carries 1 first_frame 1 2 (Partial (set 4)) 1 ∷ carries 2 first_frame 2 4 Clean 0 ∷ carries 3 first_frame 4 2 Clean 0 ∷ [])
    (stopped_node 1 1 [] ∷ running_node 6 (delivered 1) ∷ running_node 6 (delivered 2) ∷ [])
    (true ∷ [])
unfolding row
edcan_sender_stops_after_partial = refl

unfoldable lost_from_1 : ℕ → List Rule
lost_from_1 zero = []
lost_from_1 (suc n) = lost_from_1 n ++ slot_rule (n + 1) Lost 0 ∷ []

unfoldable lost_slots : ℕ → List SlotNote
lost_slots zero = []
lost_slots (suc n) = lost_slots n ++ carries (n + 1) first_frame 1 0 Lost 0 ∷ []

-- sixteen lost slots stop the sender by its transmit counter, and leave the hypothesis at the third
sixteen_lost_slots :
    report_of (scenario (three 20 1 2) one_message (lost_from_1 16)) ≡ broken_run kind.Errors 3 (steps (codes ".012.012.012.012.012.012.012.012.012.012.012.012.012.012.012.012.12.12.12.12"))
    (lost_slots 15 ++ carries 16 first_frame 1 0 Lost 1 ∷ [])
    (stopped_node 16 16 [] ∷ running_node 20 [] ∷ running_node 20 [] ∷ [])
    (true ∷ [])
unfolding row lost_from_1 lost_slots
sixteen_lost_slots = refl

-- at lag 2 node 2 reads two copies in a row: it asks, and withdraws before its frame is carried
copies_read_in_a_row :
    (let p : Parameters = record { format = One; nodes = 3; lag = 2; omit = 1; errors = 2; bound = 114; cycle = 232; life = 116; silence = 233; confirm = 10; slots = 6 } in
    report (scenario p one_message []) (steps (codes ".012.01.0122.012.012.012"))) ≡ whole_run (steps (codes ".012.01.0122.012.012.012"))
    (carries 1 first_frame 1 6 Clean 0 ∷ carries 2 first_frame 2 5 Clean 0 ∷ [])
    (replicate 3 (running_node 6 (delivered 1)))
    (true ∷ [])
unfolding row
copies_read_in_a_row = refl
