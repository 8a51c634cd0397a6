-- Worked rows of the verdict table and of the error counters.
use Rattle.std.specs.Prelude.{ℕ, zero, suc, ◌≡◌, ◌+◌, ◌<◌, true, List, [], ◌∷◌, Option, Some, None, refl, map, codes}
use Rattle.std.specs.List.{range_with_len}
use Rattle.std.proofs.Common.{arith, inl, lit<, lit≤}
use Rattle.cany_base.specs.declared.class.Class.TheVariants as class
use Rattle.cany_base.specs.declared.format.Format.TheVariants.{One}
use Rattle.cany_base.specs.declared.message.Service.TheVariants as service
use Rattle.cany_base.specs.declared.rule.Rule.{Rule}
use Rattle.cany_base.specs.declared.rule.Verdict.TheVariants.{Clean, Lost, Partial, Silent}
use Rattle.cany_base.specs.Frame.{FrameParts}
use Rattle.cany_model.specs.declared.breaks.BreakKind.TheVariants as kind
use Rattle.cany_model.specs.Rules.Messages.{Message}
use Rattle.cany_model.specs.Runs.Run.{run}
use Rattle.cany_model.specs.Promises.FirstSlots.{first_carried}
use Rattle.cany_model.specs.Promises.Safe.{IsAgreedOn}
use Rattle.cany_model.specs.Bus.Slot.{script, after_slot}
use Rattle.cany_model.specs.Bus.State.{NodeState, original}
use Rattle.cany_rows.proofs.RowWords.{broken_run, carries, delivered, ed, first_frame, frame_rule, idle, insides, one_message, row, scenario, send, set, slot_rule, steps, three, running_node, stopped_node, whole_run, report_of, run_of}

not-below-zero : (k : ℕ) → k < 0 → ⊥
not-below-zero k below = omega (arith, below)

-- a sender in the set of a Partial slot sees an error as any sender does: it is not a receiver that
-- rejects
partial_set_names_the_sender :
    report_of (scenario (three 5 1 2) one_message (slot_rule 1 (Partial (set 5)) 0 ∷ [])) ≡ whole_run (steps (codes ".012.012.012.012.012"))
    (carries 1 first_frame 1 2 (Partial (set 5)) 0 ∷ carries 2 first_frame 3 4 Clean 0 ∷ carries 3 first_frame 4 3 Clean 0 ∷ [])
    (running_node 5 (delivered 2) ∷ running_node 5 (delivered 1) ∷ running_node 5 (delivered 2) ∷ [])
    (true ∷ [])
unfolding row
partial_set_names_the_sender = refl

counters_after_partial :
    insides (scenario (three 5 1 2) one_message (slot_rule 1 (Partial (set 5)) 0 ∷ [])) (steps (codes ".012."))
    ≡ record { transmit = 8; receive = 0; waiting = first_frame ∷ [] } ∷ record { transmit = 0; receive = 0; waiting = [] }
    ∷ record { transmit = 0; receive = 1; waiting = [] } ∷ []
unfolding row
counters_after_partial = refl

-- a later success lowers the sender's counter by 1, and a good reception that of the node that
-- rejected
counters_fall_again :
    insides (scenario (three 5 1 2) one_message (slot_rule 1 (Partial (set 5)) 0 ∷ [])) (steps (codes ".012.012.012.012.012"))
    ≡ record { transmit = 7; receive = 0; waiting = [] } ∷ record { transmit = 0; receive = 0; waiting = [] }
    ∷ record { transmit = 0; receive = 0; waiting = [] } ∷ []
unfolding row
counters_fall_again = refl

-- a Silent slot: the sender sees success although node 2 rejects, and the set does not touch the
-- sender
silent_set_names_the_sender :
    report_of (scenario (three 5 1 2) one_message (slot_rule 1 (Silent (set 5)) 0 ∷ [])) ≡ broken_run kind.Silent 1 (steps (codes ".012.012.012.012.012"))
    (carries 1 first_frame 1 2 (Silent (set 5)) 0 ∷ carries 2 first_frame 2 5 Clean 0 ∷ carries 3 first_frame 4 3 Clean 0 ∷ [])
    (running_node 5 (delivered 1) ∷ running_node 5 (delivered 1) ∷ running_node 5 (delivered 2) ∷ [])
    (true ∷ [])
unfolding row
silent_set_names_the_sender = refl

counters_after_silent :
    insides (scenario (three 5 1 2) one_message (slot_rule 1 (Silent (set 5)) 0 ∷ [])) (steps (codes ".012."))
    ≡ record { transmit = 0; receive = 0; waiting = [] } ∷ record { transmit = 0; receive = 0; waiting = [] }
    ∷ record { transmit = 0; receive = 1; waiting = [] } ∷ []
unfolding row
counters_after_silent = refl

-- Outside the hypothesis agreement fails: the sender is content, the only taker stops, and node 2
-- never gets the one_message.
silent_omission_loses_a_message :
    report_of (scenario (three 3 1 2) one_message (slot_rule 1 (Silent (set 4)) 2 ∷ [])) ≡ broken_run kind.Silent 1 (steps (codes ".012.02.02"))
    (carries 1 first_frame 1 2 (Silent (set 4)) 2 ∷ [])
    (running_node 3 (delivered 1) ∷ stopped_node 1 1 [] ∷ running_node 3 [] ∷ [])
    (true ∷ [])
unfolding row
silent_omission_loses_a_message = refl

-- so the promise of agreement, read of this run, is refuted: it is not met by every run
agreement_is_refuted :
    (let sc = scenario (three 3 1 2) one_message (slot_rule 1 (Silent (set 4)) 2 ∷ []) in
    let m : Message = record { slot = 0; origin = 0; seq = 0; service = service.Ed; payload = 1 ∷ [] } in
    IsAgreedOn sc (run sc (steps (codes ".012.02.02"))) m → ⊥)
unfolding row first_carried
agreement_is_refuted agreed =
    let missing = agreed refl 0 (record { correct = record { there = lit< tt; running = refl }; took_part = lit≤ tt }) (inl refl)
    2 (record { correct = record { there = lit< tt; running = refl }; took_part = lit≤ tt }) in
    not-below-zero missing.stands.0 missing.stands.1

-- a receiver that stops in the slot accepted the frame, and reads nothing of it
taker_stops :
    report_of (scenario (three 4 1 2) one_message (slot_rule 1 Clean 2 ∷ [])) ≡ whole_run (steps (codes ".012.02.02.02"))
    (carries 1 first_frame 1 6 Clean 2 ∷ carries 2 first_frame 4 1 Clean 0 ∷ [])
    (running_node 4 (delivered 1) ∷ stopped_node 1 1 [] ∷ running_node 4 (delivered 1) ∷ [])
    (true ∷ [])
unfolding row
taker_stops = refl

-- in an idle slot the verdict has no effect, the scripted stop acts, and a rule for an attempt of a
-- frame does not
idle_slot_stops :
    report_of (scenario (three 3 0 0) [] (slot_rule 1 (Silent (set 6)) 4 ∷ frame_rule class.Ed 0 0 1 Lost 7 ∷ [])) ≡ whole_run (steps (codes ".012.01.01"))
    (idle 1 4 ∷ [])
    (running_node 3 [] ∷ running_node 3 [] ∷ stopped_node 1 1 [] ∷ [])
    []
unfolding row
idle_slot_stops = refl

-- A slot at the limits of the counters: node 0 sends, and nodes 1 and 2 reject. Only above 127 a
-- node stops, and node 3, which accepts, gets below again.
unfoldable counting : ℕ → ℕ → List FrameParts → NodeState
counting transmit receive waiting = record { present = original; ended = []; unread = 0; waiting = waiting; transmit = transmit; receive = receive; stopped = None }

unfoldable counted : ℕ → ℕ → List FrameParts → Option ℕ → NodeState
counted transmit receive waiting stopped = record { present = original; ended = []; unread = 1; waiting = waiting; transmit = transmit; receive = receive; stopped = stopped }

stops_above_127 :
    (after_slot (script (slot_rule 0 (Partial (set 6)) 0 ∷ []))
    (record { trace = []; nodes = counting 119 5 (first_frame ∷ []) ∷ counting 5 126 [] ∷ counting 5 127 [] ∷ counting 5 127 [] ∷ [] }))
    ≡ record {
      trace = carries 0 first_frame 1 8 (Partial (set 6)) 4 ∷ [];
      nodes = counted 127 5 (first_frame ∷ []) None ∷ counted 5 127 [] None ∷ counted 5 128 [] (Some 0) ∷ counted 5 126 [] None ∷ [];
    }
unfolding row counting counted
stops_above_127 = refl

sender_stops_above_127 :
    (after_slot (script (slot_rule 0 Lost 0 ∷ [])) (record { trace = []; nodes = counting 120 5 (first_frame ∷ []) ∷ counting 5 0 [] ∷ [] }))
    ≡ record {
      trace = carries 0 first_frame 1 0 Lost 1 ∷ [];
      nodes = counted 128 5 (first_frame ∷ []) (Some 0) ∷ counted 5 1 [] None ∷ [];
    }
unfolding row counting counted
sender_stops_above_127 = refl

-- Of two frames of one identity with unequal bytes, which no run has, the least node's is carried,
-- and the other node receives.
least_node_decides :
    (after_slot (script []) (record { trace = []; nodes = counting 0 0 [] ∷ counting 0 0 (ed 5 0 (9 ∷ []) ∷ []) ∷ counting 0 0 (ed 5 0 (7 ∷ []) ∷ []) ∷ [] }))
    ≡ record {
      trace = carries 0 (ed 5 0 (9 ∷ [])) 2 5 Clean 0 ∷ [];
      nodes = counted 0 0 [] None ∷ counted 0 0 [] None ∷ counted 0 0 (ed 5 0 (7 ∷ []) ∷ []) None ∷ [];
    }
unfolding row counting counted
least_node_decides = refl

-- Eight senders in turn lose 16 slots each. The ninth node never sends, and stops by its receive
-- counter at the 128th.
unfoldable lost_until : ℕ → List Rule
lost_until zero = []
lost_until (suc n) = slot_rule (n + 1) Lost 0 ∷ lost_until n

receiver_stops_by_its_counter :
    (let s = scenario (record { format = One; nodes = 9; lag = 0; omit = 1; errors = 2; bound = 264; cycle = 528; life = 264; silence = 529; confirm = 10; slots = 130 })
    (map (λ i. send 0 i []) (range_with_len 0 8)) (lost_until 128) in
    map {B = ℕ × ℕ × Option ℕ} (λ node. (node.transmit, node.receive, node.stopped)) (run_of s).nodes)
    ≡ (128, 0, Some 16) ∷ (128, 16, Some 32) ∷ (128, 32, Some 48) ∷ (128, 48, Some 64) ∷ (128, 64, Some 80) ∷ (128, 80, Some 96)
    ∷ (128, 96, Some 112) ∷ (128, 112, Some 128) ∷ (0, 128, Some 128) ∷ []
unfolding row lost_until
receiver_stops_by_its_counter = refl
