-- Worked rows of a fault script, and of arbitration between two origins.
use Rattle.std.specs.Prelude.{◌≡◌, true, [], ◌∷◌, replicate, refl, codes}
use Rattle.cany_base.specs.declared.class.Class.TheVariants as class
use Rattle.cany_base.specs.declared.rule.Verdict.TheVariants.{Clean, Lost, Partial}
use Rattle.cany_rows.proofs.RowWords.{carries, delivered, delivers, ed, first_frame, frame_rule, insides, one_message, row, scenario, send, set, slot_rule, steps, three, running_node, stopped_node, whole_run, report_of}

-- the rule for the second attempt: that is the relay of nodes 1 and 2, in which node 2 stops; it
-- keeps its waiting frame
second_attempt :
    report_of (scenario (three 6 1 2) one_message (frame_rule class.Ed 0 0 2 (Partial (set 1)) 4 ∷ [])) ≡ whole_run (steps (codes ".012.012.01.01.01.01"))
    (carries 1 first_frame 1 6 Clean 0 ∷ carries 2 first_frame 6 0 (Partial (set 1)) 4 ∷ carries 3 first_frame 2 1 Clean 0 ∷ [])
    (running_node 6 (delivered 1) ∷ running_node 6 (delivered 1) ∷ stopped_node 2 2 (delivered 1) ∷ [])
    (true ∷ [])
unfolding row
second_attempt = refl

counters_after_second_attempt :
    insides (scenario (three 6 1 2) one_message (frame_rule class.Ed 0 0 2 (Partial (set 1)) 4 ∷ [])) (steps (codes ".012.012.01.01.01.01"))
    ≡ record { transmit = 0; receive = 0; waiting = [] } ∷ record { transmit = 7; receive = 0; waiting = [] }
    ∷ record { transmit = 8; receive = 0; waiting = first_frame ∷ [] } ∷ []
unfolding row
counters_after_second_attempt = refl

-- a rule for the slot is used alone, also where it says Clean; the slot counts as an attempt all
-- the same
slot_rule_is_used_alone :
    (let s = scenario (three 5 1 2) one_message (frame_rule class.Ed 0 0 1 Lost 1 ∷ frame_rule class.Ed 0 0 2 Lost 0 ∷ slot_rule 1 Clean 0 ∷ []) in
    report_of s) ≡ whole_run (steps (codes ".012.012.012.012.012"))
    (carries 1 first_frame 1 6 Clean 0 ∷ carries 2 first_frame 6 0 Lost 0 ∷ carries 3 first_frame 6 1 Clean 0 ∷ [])
    (replicate 3 (running_node 5 (delivered 1)))
    (true ∷ [])
unfolding row
slot_rule_is_used_alone = refl

-- a lost slot counts as an attempt too, and the rules of another frame do not
attempts_of_one_frame :
    (let s = scenario (three 5 1 2) one_message (frame_rule class.Ed 0 0 1 Lost 0 ∷ frame_rule class.Ed 0 0 2 (Partial (set 2)) 0
    ∷ frame_rule class.Ed 0 1 1 Lost 7 ∷ frame_rule class.Ed 1 0 1 Lost 7 ∷ frame_rule class.Rel 0 0 1 Lost 7 ∷ []) in
    (report_of s).bus) ≡ carries 1 first_frame 1 0 Lost 0 ∷ carries 2 first_frame 1 4 (Partial (set 2)) 0 ∷ carries 3 first_frame 5 2 Clean 0 ∷ carries 4 first_frame 2 5 Clean 0 ∷ []
unfolding row
attempts_of_one_frame = refl

-- the attempts of one frame are not those of another of the same number, nor of another of the same
-- node
attempts_are_counted_apart :
    (let s = scenario (three 8 1 2) (send 0 0 (1 ∷ []) ∷ send 0 0 (2 ∷ []) ∷ send 0 1 (3 ∷ []) ∷ [])
    (frame_rule class.Ed 0 1 1 Lost 0 ∷ frame_rule class.Ed 1 0 1 (Partial (set 2)) 0 ∷ []) in
    (report_of s).bus) ≡ carries 1 first_frame 1 6 Clean 0 ∷ carries 2 first_frame 6 1 Clean 0
    ∷ carries 3 (ed 1 0 (3 ∷ [])) 2 0 Lost 0 ∷ carries 4 (ed 1 0 (3 ∷ [])) 2 5 Clean 0 ∷ carries 5 (ed 1 0 (3 ∷ [])) 5 2 Clean 0
    ∷ carries 6 (ed 0 1 (2 ∷ [])) 1 4 (Partial (set 2)) 0 ∷ carries 7 (ed 0 1 (2 ∷ [])) 5 2 Clean 0 ∷ []
unfolding row
attempts_are_counted_apart = refl

-- the sender stops after a Partial first attempt, by a rule for that attempt instead of one for the
-- slot
edcan_sender_stops_after_partial_attempt :
    report_of (scenario (three 6 1 2) one_message (frame_rule class.Ed 0 0 1 (Partial (set 4)) 1 ∷ []))
    ≡ report_of (scenario (three 6 1 2) one_message (slot_rule 1 (Partial (set 4)) 1 ∷ []))
unfolding row
edcan_sender_stops_after_partial_attempt = refl

-- Two origins: the lower number wins, and of one number the lower node; a node's own frame waits
-- meanwhile.
number_comes_before_node :
    report_of (scenario (three 8 1 2) (send 0 0 (1 ∷ []) ∷ send 0 0 (2 ∷ []) ∷ send 0 1 (3 ∷ []) ∷ []) []) ≡ whole_run (steps (codes ".012.012.012.012.012.012.012.012"))
    (carries 1 first_frame 1 6 Clean 0 ∷ carries 2 first_frame 6 1 Clean 0
    ∷ carries 3 (ed 1 0 (3 ∷ [])) 2 5 Clean 0 ∷ carries 4 (ed 1 0 (3 ∷ [])) 5 2 Clean 0
    ∷ carries 5 (ed 0 1 (2 ∷ [])) 1 6 Clean 0 ∷ carries 6 (ed 0 1 (2 ∷ [])) 6 1 Clean 0 ∷ [])
    (let log = delivers 1 0 0 (1 ∷ []) ∷ delivers 3 1 0 (3 ∷ []) ∷ delivers 5 0 1 (2 ∷ []) ∷ [] in
    replicate 3 (running_node 8 log))
    (true ∷ true ∷ true ∷ [])
unfolding row
number_comes_before_node = refl
