-- Worked rows of RELCAN.
use Rattle.std.specs.Prelude.{ℕ, ◌≡◌, true, false, List, [], ◌∷◌, replicate, refl, codes}
use Rattle.std.proofs.Common.{lit<}
use Rattle.cany_base.specs.declared.class.Class.TheVariants as class
use Rattle.cany_base.specs.declared.log_entry.LogEntry.{LogEntry}
use Rattle.cany_base.specs.declared.message.Service.TheVariants.{Rel}
use Rattle.cany_base.specs.declared.rule.Verdict.TheVariants.{Clean, Partial}
use Rattle.cany_base.specs.Scenario.{ScenarioParts}
use Rattle.cany_model.specs.Promises.Hypothesis.{IsWithin}
use Rattle.cany_model.specs.Rules.Messages.{Message, messages_of}
use Rattle.cany_model.specs.Promises.Entries.{HasDelivered}
use Rattle.cany_model.specs.Promises.Settled.{IsCorrect, is_settled}
use Rattle.cany_model.proofs.Promises.BreakFacts.{first_break_exact}
use Rattle.cany_rows.proofs.RowWords.{carries, delivers_rel, first_confirm, first_rel, frame_rule, one_rel, row, scenario, set, slot_rule, steps, three, running_node, stopped_node, whole_run, report_of, run_of}

unfoldable delivered : ℕ → List LogEntry
delivered slot = delivers_rel slot 0 0 (1 ∷ []) ∷ []

-- The sender stops after only node 1 accepted its frame. The timer of node 1 runs out, node 2
-- delivers at its frame, and falls back too, since nobody confirms.
unfoldable sender_stops_after_partial : ℕ → ScenarioParts
sender_stops_after_partial slots = scenario (three slots 1 2) one_rel (slot_rule 1 (Partial (set 4)) 1 ∷ [])

relcan_falls_back :
    report_of (sender_stops_after_partial 30) ≡ whole_run (steps (codes ".012.12.12.12.12.12.12.12.12.12.12.12.12.12.12.12.12.12.12.12.12.12.12.12.12.12.12.12.12.12"))
    (carries 1 first_rel 1 2 (Partial (set 4)) 1 ∷ carries 12 first_rel 2 4 Clean 0 ∷ carries 23 first_rel 4 2 Clean 0 ∷ [])
    (stopped_node 1 1 [] ∷ running_node 30 (delivered 1) ∷ running_node 30 (delivered 12) ∷ [])
    (true ∷ [])
unfolding row delivered sender_stops_after_partial
relcan_falls_back = refl

-- so long as the timer of node 1 is ahead the message is open, and node 2 has not delivered it
open_while_a_timer_is_ahead :
    report_of (sender_stops_after_partial 11) ≡ whole_run (steps (codes ".012.12.12.12.12.12.12.12.12.12.12"))
    (carries 1 first_rel 1 2 (Partial (set 4)) 1 ∷ [])
    (stopped_node 1 1 [] ∷ running_node 11 (delivered 1) ∷ running_node 11 [] ∷ [])
    (false ∷ [])
unfolding row delivered sender_stops_after_partial
open_while_a_timer_is_ahead = refl

-- the premises of agreement are met by a run in which a node falls back
unfoldable the_message : Message
the_message = record { slot = 0; origin = 0; seq = 0; service = Rel; payload = 1 ∷ [] }

premises_are_met :
    (let sc = sender_stops_after_partial 30 in
    let s = run_of sc in
    IsWithin sc.params s.trace × (messages_of sc.sends ≡ the_message ∷ []) × (is_settled sc s the_message ≡ true) × IsCorrect sc s 1
    × HasDelivered sc s 1 the_message × IsCorrect sc s 2)
unfolding row delivered sender_stops_after_partial the_message
premises_are_met = (
  (let sc = sender_stops_after_partial 30 in first_break_exact sc.params (run_of sc).trace).0 refl,
  refl,
  refl,
  record { there = lit< tt; running = refl },
  record { entry = delivers_rel 1 0 0 (1 ∷ []); stands = (0, lit< tt, refl); delivers = (refl, refl, refl) },
  record { there = lit< tt; running = refl },
)

-- without a fault the message is confirmed, and settled once the confirmation was read: no timer
-- runs out
confirmed_in_time :
    report_of (scenario (three 14 1 2) one_rel []) ≡ whole_run (steps (codes ".012.012.012.012.012.012.012.012.012.012.012.012.012.012"))
    (carries 1 first_rel 1 6 Clean 0 ∷ carries 2 first_confirm 1 6 Clean 0 ∷ [])
    (replicate 3 (running_node 14 (delivered 1)))
    (true ∷ [])
unfolding row delivered
confirmed_in_time = refl

settled_at_first_confirmation :
    (let s = scenario (three 3 1 2) one_rel [] in (report_of s).settled) ≡ true ∷ []
unfolding row
settled_at_first_confirmation = refl

open_before_first_confirmation :
    (let s = scenario (three 2 1 2) one_rel [] in (report_of s).settled) ≡ false ∷ []
unfolding row
open_before_first_confirmation = refl

-- The confirmation reaches only node 1, and its sender stops: node 2 falls back, and is alone with
-- that.
unfoldable confirm_lost_to_node_2 : ℕ → ScenarioParts
confirm_lost_to_node_2 stop = scenario (three 16 1 2) one_rel (frame_rule class.Confirm 0 0 1 (Partial (set 4)) stop ∷ [])

one_node_reads_no_confirmation :
    report_of (confirm_lost_to_node_2 1) ≡ whole_run (steps (codes ".012.012.12.12.12.12.12.12.12.12.12.12.12.12.12.12"))
    (carries 1 first_rel 1 6 Clean 0 ∷ carries 2 first_confirm 1 2 (Partial (set 4)) 1 ∷ carries 12 first_rel 4 2 Clean 0 ∷ [])
    (stopped_node 2 2 (delivered 1) ∷ running_node 16 (delivered 1) ∷ running_node 16 (delivered 1) ∷ [])
    (true ∷ [])
unfolding row delivered confirm_lost_to_node_2
one_node_reads_no_confirmation = refl

-- if its sender does not stop, it is sent again
confirmation_is_sent_again :
    report_of (confirm_lost_to_node_2 0) ≡ whole_run (steps (codes ".012.012.012.012.012.012.012.012.012.012.012.012.012.012.012.012"))
    (carries 1 first_rel 1 6 Clean 0 ∷ carries 2 first_confirm 1 2 (Partial (set 4)) 0 ∷ carries 3 first_confirm 1 6 Clean 0 ∷ [])
    (replicate 3 (running_node 16 (delivered 1)))
    (true ∷ [])
unfolding row delivered confirm_lost_to_node_2
confirmation_is_sent_again = refl

-- The sender stops in the slot of its frame, so nobody confirms. With omit 0 the one copy is
-- enough, and nobody sends when the timers run out, at slot 11: the message is settled with that.
unfoldable nobody_confirms : ℕ → ℕ → ScenarioParts
nobody_confirms slots omit = scenario (three slots omit 2) one_rel (slot_rule 1 Clean 1 ∷ [])

one_copy_is_enough :
    report_of (nobody_confirms 14 0) ≡ whole_run (steps (codes ".012.12.12.12.12.12.12.12.12.12.12.12.12.12"))
    (carries 1 first_rel 1 6 Clean 1 ∷ [])
    (stopped_node 1 1 [] ∷ running_node 14 (delivered 1) ∷ running_node 14 (delivered 1) ∷ [])
    (true ∷ [])
unfolding row delivered nobody_confirms
one_copy_is_enough = refl

timer_ahead_at_omit_0 : (report_of (nobody_confirms 11 0)).settled ≡ false ∷ []
unfolding row nobody_confirms
timer_ahead_at_omit_0 = refl

timer_run_out_at_omit_0 : (report_of (nobody_confirms 12 0)).settled ≡ true ∷ []
unfolding row nobody_confirms
timer_run_out_at_omit_0 = refl

-- with omit 1 both fall back in the same turn, and send together
both_fall_back_together :
    report_of (nobody_confirms 14 1) ≡ whole_run (steps (codes ".012.12.12.12.12.12.12.12.12.12.12.12.12.12"))
    (carries 1 first_rel 1 6 Clean 1 ∷ carries 12 first_rel 6 0 Clean 0 ∷ [])
    (stopped_node 1 1 [] ∷ running_node 14 (delivered 1) ∷ running_node 14 (delivered 1) ∷ [])
    (true ∷ [])
unfolding row delivered nobody_confirms
both_fall_back_together = refl
