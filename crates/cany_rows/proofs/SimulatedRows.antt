-- Runs that an independent simulator computed.
use Rattle.std.specs.Prelude.{ℕ, ◌≡◌, true, false, List, [], ◌∷◌, refl, codes}
use Rattle.cany_base.specs.declared.format.Format.TheVariants.{One}
use Rattle.cany_base.specs.declared.log_entry.LogEntry.{LogEntry}
use Rattle.cany_base.specs.declared.rule.Verdict.TheVariants.{Clean, Lost, Partial, Silent}
use Rattle.cany_model.specs.declared.breaks.BreakKind.TheVariants as kind
use Rattle.cany_model.specs.declared.reply.StepReply.TheVariants.{Lagging}
use Rattle.cany_rows.proofs.RowWords.{broken_run, Refused, carries, delivers, ed, follow, idle, report, row, scenario, send, set, slot_rule, steps, three, running_node, stopped_node, whole_run, report_of}

-- round robin at errors 1: slot 1 stops a receiver, later rules name it again or fall on idle slots
-- and do nothing, and slot 7 is the second error
one_error_too_many :
    (let long : List ℕ = 253 ∷ 188 ∷ 71 ∷ 251 ∷ 39 ∷ 131 ∷ 205 ∷ 196 ∷ [] in
    let log : List LogEntry = delivers 2 2 1 (189 ∷ []) ∷ delivers 4 1 0 (65 ∷ []) ∷ delivers 6 1 1 (5 ∷ []) ∷ delivers 8 2 0 long ∷ [] in
    (let s = scenario (three 15 1 1) (send 5 0 (44 ∷ []) ∷ send 3 1 (65 ∷ []) ∷ send 6 2 long ∷ send 0 2 (189 ∷ []) ∷ send 4 1 (5 ∷ []) ∷ [])
    (slot_rule 1 Lost 1 ∷ slot_rule 11 Clean 1 ∷ slot_rule 4 Clean 0 ∷ slot_rule 13 (Partial (set 0)) 0 ∷ slot_rule 7 (Partial (set 6)) 1 ∷ []) in
    report_of s) ≡ broken_run kind.Errors 7 (steps (codes ".012.12.12.12.12.12.12.12.12.12.12.12.12.12.12"))
    (carries 1 (ed 2 1 (189 ∷ [])) 4 0 Lost 1 ∷ carries 2 (ed 2 1 (189 ∷ [])) 4 2 Clean 0 ∷ carries 3 (ed 2 1 (189 ∷ [])) 2 4 Clean 0
    ∷ carries 4 (ed 1 0 (65 ∷ [])) 2 4 Clean 0 ∷ carries 5 (ed 1 0 (65 ∷ [])) 4 2 Clean 0 ∷ carries 6 (ed 1 1 (5 ∷ [])) 2 4 Clean 0
    ∷ carries 7 (ed 2 0 long) 4 0 (Partial (set 6)) 0 ∷ carries 8 (ed 2 0 long) 4 2 Clean 0 ∷ carries 9 (ed 2 0 long) 2 4 Clean 0
    ∷ carries 10 (ed 1 1 (5 ∷ [])) 4 2 Clean 0 ∷ [])
    (stopped_node 1 1 [] ∷ running_node 15 log ∷ running_node 15 log ∷ [])
    (true ∷ true ∷ true ∷ true ∷ true ∷ []))
unfolding row
one_error_too_many = refl

-- two nodes by a given journal: a Silent slot that names its sender, in which the receiver stops,
-- and a stop in an idle slot
silent_by_a_journal :
    (let first : List ℕ = 31 ∷ 11 ∷ 165 ∷ 76 ∷ [] in
    let second : List ℕ = 48 ∷ 242 ∷ 120 ∷ 69 ∷ [] in
    (let s = scenario (record { format = One; nodes = 2; lag = 0; omit = 3; errors = 8; bound = 25; cycle = 50; life = 25; silence = 51; confirm = 20; slots = 17 })
    (send 15 0 [] ∷ send 1 0 first ∷ send 9 1 (231 ∷ []) ∷ send 2 0 second ∷ send 12 1 (235 ∷ []) ∷ [])
    (slot_rule 4 (Silent (set 1)) 2 ∷ slot_rule 14 (Partial (set 1)) 1 ∷ []) in
    report s (steps (codes ".10.10.10.01.0.0.0.0.0.0.0.0.0.0..."))) ≡ broken_run kind.Silent 4 (steps (codes ".10.10.10.01.0.0.0.0.0.0.0.0.0.0..."))
    (carries 2 (ed 0 1 first) 1 2 Clean 0 ∷ carries 3 (ed 0 1 first) 2 1 Clean 0 ∷ carries 4 (ed 0 2 second) 1 2 (Silent (set 1)) 2 ∷ idle 14 1 ∷ [])
    (stopped_node 14 14 (delivers 2 0 1 first ∷ delivers 4 0 2 second ∷ []) ∷ stopped_node 4 4 (delivers 2 0 1 first ∷ []) ∷ [])
    (true ∷ true ∷ true ∷ true ∷ true ∷ []))
unfolding row
silent_by_a_journal = refl

-- at lag 1 two nodes stop in idle slots, and the one_message of slot 17 is not yet settled at the
-- end
stops_at_lag_1 :
    (let s = scenario (record { format = One; nodes = 3; lag = 1; omit = 1; errors = 8; bound = 87; cycle = 176; life = 88; silence = 177; confirm = 10; slots = 19 })
    (send 18 2 (154 ∷ 111 ∷ 60 ∷ 130 ∷ 116 ∷ 65 ∷ 239 ∷ 2 ∷ []) ∷ send 17 1 [] ∷ [])
    (slot_rule 3 (Partial (set 2)) 1 ∷ slot_rule 10 Clean 4 ∷ slot_rule 18 (Partial (set 0)) 0 ∷ []) in
    report s (steps (codes "..21210.2100..12.1122.2.12.1.211..1.1.1.11..1.1.11"))) ≡ whole_run (steps (codes "..21210.2100..12.1122.2.12.1.211..1.1.1.11..1.1.11"))
    (idle 3 1 ∷ idle 10 4 ∷ [])
    (stopped_node 3 3 [] ∷ running_node 19 [] ∷ stopped_node 10 9 [] ∷ [])
    (true ∷ false ∷ [])
unfolding row
stops_at_lag_1 = refl

refused_at_lag_0 :
    follow (scenario (record { format = One; nodes = 3; lag = 0; omit = 1; errors = 1; bound = 35; cycle = 70; life = 35; silence = 71; confirm = 5; slots = 4 })
    (send 3 1 (189 ∷ []) ∷ []) (slot_rule 1 (Partial (set 2)) 0 ∷ slot_rule 0 (Silent (set 2)) 1 ∷ slot_rule 2 Clean 1 ∷ slot_rule 3 Clean 0 ∷ []))
    (steps (codes ".1.12.21.21"))
    ≡ Refused 2 (Lagging 2 1)
unfolding row
refused_at_lag_0 = refl
