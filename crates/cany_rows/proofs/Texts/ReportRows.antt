-- Worked reports, computed from the definitions.
use Rattle.std.specs.Prelude.{ℕ, ◌≡◌, List, [], ◌∷◌, ◌++◌, Option, Some, None, true, false, length, map, replicate, codes, refl}
use Rattle.std.specs.List.{concat, flat_map}
use Rattle.std.specs.Fmt.{digits}
use Rattle.cany_base.specs.declared.format.Format.TheVariants.{One, Two}
use Rattle.cany_base.specs.declared.message.Service.TheVariants as service
use Rattle.cany_base.specs.declared.rule.Rule.{Rule}
use Rattle.cany_base.specs.declared.rule.Place.TheVariants.{At}
use Rattle.cany_base.specs.declared.rule.Verdict.TheVariants.{Clean, Lost, Partial}
use Rattle.cany_base.specs.declared.class.Class.TheVariants.{Els}
use Rattle.cany_base.specs.declared.log_entry.LogEntry.{LogEntry}
use Rattle.cany_base.specs.declared.log_entry.LogEntry.TheVariants.{Deliver, Failed, View}
use Rattle.cany_base.specs.declared.slot_note.SlotNote.{SlotNote}
use Rattle.cany_base.specs.declared.step.Step.TheVariants.{Slot, Turn}
use Rattle.cany_model.specs.declared.breaks.BreakKind.TheVariants as kind
use Rattle.cany_model.specs.declared.span.Span.{Span}
use Rattle.cany_base.specs.Nodes.{Nodes, has}
use Rattle.cany_base.specs.Params.{default_parameters}
use Rattle.cany_base.specs.Scenario.{ScenarioParts}
use Rattle.cany_text.specs.Report.{bus_lines, incarnation_lines, node_lines, message_lines, report_lines, report}
use Rattle.cany_text.specs.ReportLines.{line_of, break_name, payload_text, set_text, step_letter, first_line, params_line, journal_line, journal_lines, node_text, bus_line, is_shown, hypothesis_line, node_line, entry_line, message_line}
use Rattle.cany_text.specs.TextNames.{class_name, service_name, verdict_name}
use Rattle.cany_model.specs.Bus.History.{ended_history}
use Rattle.cany_model.specs.Runs.Incarnations.{incarnation_of}
use Rattle.cany_model.specs.Bus.Restart.{restarted_in}
use Rattle.cany_model.specs.Runs.RoundRobin.{round_robin}
use Rattle.cany_model.proofs.RowWords.{scenario_of}
use Rattle.cany_rows.proofs.RowWords.{report as run_report, send}

-- one EDCAN message of node 0 at slot 0, with one byte
unfoldable one_send : ℕ → List Rule → ScenarioParts
unfolding send scenario_of
one_send slots rules = scenario_of (default_parameters 3 slots) 7 (send 0 0 (1 ∷ []) ∷ []) rules []

unfoldable pub text_of : ScenarioParts → List ℕ
unfolding run_report ended_history incarnation_of restarted_in digits line_of class_name service_name verdict_name break_name payload_text set_text step_letter first_line params_line journal_line journal_lines node_text bus_line is_shown hypothesis_line node_line entry_line message_line bus_lines incarnation_lines node_lines message_lines report_lines report
text_of scenario = report scenario (round_robin scenario)

-- one message, no fault: all deliver it, and the others relay it together
one_message_no_fault : text_of (one_send 5 []) ≡ concat (
    codes "canely report 1\n"
    ∷ codes "params nodes 3 lag 0 omit 1 errors 2 bound 36 cycle 72 life 36 silence 73 confirm 10 slots 5\n"
    ∷ codes "journal .012.012.012.012.012\n"
    ∷ codes "bus 1 ed 0 0 x01 from 0 to 1,2 clean\n"
    ∷ codes "bus 2 ed 0 0 x01 from 1,2 to 0 clean\n"
    ∷ codes "hypothesis within\n"
    ∷ codes "node 0 correct read 5\n"
    ∷ codes "deliver 1 ed 0 0 x01\n"
    ∷ codes "node 1 correct read 5\n"
    ∷ codes "deliver 1 ed 0 0 x01\n"
    ∷ codes "node 2 correct read 5\n"
    ∷ codes "deliver 1 ed 0 0 x01\n"
    ∷ codes "message ed 0 0 settled\n"
    ∷ codes "end\n" ∷ [])
unfolding text_of one_send
one_message_no_fault = refl

-- the sender stops after only node 1 accepted its frame: node 1 relays it
edcan_sender_stops_after_partial :
    text_of (one_send 6 (record { place = At 1; verdict = Partial (record { bits = 4 }); stop = record { bits = 1 } } ∷ [])) ≡ concat (
    codes "canely report 1\n"
    ∷ codes "params nodes 3 lag 0 omit 1 errors 2 bound 36 cycle 72 life 36 silence 73 confirm 10 slots 6\n"
    ∷ codes "journal .012.12.12.12.12.12\n"
    ∷ codes "bus 1 ed 0 0 x01 from 0 to 1 partial stop 0\n"
    ∷ codes "bus 2 ed 0 0 x01 from 1 to 2 clean\n"
    ∷ codes "bus 3 ed 0 0 x01 from 2 to 1 clean\n"
    ∷ codes "hypothesis within\n"
    ∷ codes "node 0 stopped 1 read 1\n"
    ∷ codes "node 1 correct read 6\n"
    ∷ codes "deliver 1 ed 0 0 x01\n"
    ∷ codes "node 2 correct read 6\n"
    ∷ codes "deliver 2 ed 0 0 x01\n"
    ∷ codes "message ed 0 0 settled\n"
    ∷ codes "end\n" ∷ [])
unfolding text_of one_send
edcan_sender_stops_after_partial = refl

-- Lines that these runs do not have.

unfoldable nodes : ℕ → Nodes
nodes bits = record { bits = bits }

unfoldable lines_of_entries : List LogEntry → List ℕ
lines_of_entries entries = flat_map entry_line entries

entry_lines : lines_of_entries (
    Failed 110 2 1 ∷ View 144 2 (nodes 3) ∷ View 144 3 (nodes 0) ∷ Deliver 3 service.Rel (record { origin = 1; seq = 65535 }) []
    ∷ Deliver 12 service.Tot (record { origin = 31; seq = 0 }) (0 ∷ 255 ∷ 10 ∷ 156 ∷ []) ∷ []) ≡ concat (
    codes "failed 110 2 1\n"
    ∷ codes "view 144 2 0,1\n"
    ∷ codes "view 144 3 -\n"
    ∷ codes "deliver 3 rel 1 65535 x\n"
    ∷ codes "deliver 12 tot 31 0 x00ff0a9c\n" ∷ [])
unfolding lines_of_entries nodes entry_line line_of digits service_name payload_text set_text has
entry_lines = refl

-- the notes of slots that carried no frame, and of one whose remote frame nobody accepted, with the
-- stops
unfoldable idle_slot : ℕ → ℕ → SlotNote
idle_slot slot stops = record { slot = slot; frame = None; senders = nodes 0; takers = nodes 0; verdict = Clean; stops = nodes stops }

unfoldable lost_sign : ℕ → SlotNote
lost_sign inc = record {
  slot = 9;
  frame = Some (record { class = Els; number = 4; node = 2; inc = inc; payload = [] });
  senders = nodes 4;
  takers = nodes 0;
  verdict = Lost;
  stops = nodes 0;
}

-- opens what the lines of a note are written with
unfoldable note_row : Unit {0}
unfolding bus_line idle_slot lost_sign nodes node_text is_shown line_of digits class_name verdict_name payload_text set_text has
note_row = tt

bus_lines_alone : bus_line (idle_slot 7 9) (nodes 0) ∷ bus_line (lost_sign 0) (nodes 0) ∷ []
    ≡ codes "bus 7 idle stop 0,3\n" ∷ codes "bus 9 els 2 4 r from 2 to - lost\n" ∷ []
unfolding note_row
bus_lines_alone = refl

-- a node that is not in its first incarnation is told with its number; the nodes that start again
-- come after those that stop
bus_lines_with_restarts : bus_line (idle_slot 7 0) (nodes 1) ∷ bus_line (idle_slot 7 9) (nodes 6) ∷ bus_line (lost_sign 15) (nodes 4) ∷ []
    ≡ codes "bus 7 idle restart 0\n" ∷ codes "bus 7 idle stop 0,3 restart 1,2\n" ∷ codes "bus 9 els 2/15 4 r from 2 to - lost restart 2\n"
    ∷ []
unfolding note_row
bus_lines_with_restarts = refl

-- a slot is shown that carried a frame, or in which a node stopped or started again
shown_slots :
    is_shown (lost_sign 0) (nodes 0) ∷ is_shown (idle_slot 7 1) (nodes 0) ∷ is_shown (idle_slot 7 0) (nodes 2)
    ∷ is_shown (idle_slot 7 0) (nodes 0) ∷ []
    ≡ true ∷ true ∷ true ∷ false ∷ []
unfolding note_row
shown_slots = refl

unfoldable span : ℕ → Option ℕ → ℕ → Span
span since stopped read = record { since = since; stopped = stopped; read = read }

-- the head of an incarnation: the first one tells no slot since when it runs
node_lines_alone :
    node_line 3 0 (span 0 None 60) ∷ node_line 3 0 (span 0 (Some 5) 5) ∷ node_line 3 1 (span 11 None 49)
    ∷ node_line 63 15 (span 400000 (Some 399999) 0) ∷ []
    ≡ codes "node 3 correct read 60\n" ∷ codes "node 3 stopped 5 read 5\n" ∷ codes "node 3 inc 1 since 11 correct read 49\n"
    ∷ codes "node 63 inc 15 since 400000 stopped 399999 read 0\n" ∷ []
unfolding node_line span line_of digits
node_lines_alone = refl

first_lines : first_line One ∷ first_line Two ∷ [] ≡ codes "canely report 1\n" ∷ codes "canely report 2\n" ∷ []
unfolding first_line line_of digits
first_lines = refl

hypothesis_broken : hypothesis_line (Some (record { kind = kind.Errors; slot = 3 })) ≡ codes "hypothesis outside errors 3\n"
unfolding hypothesis_line line_of digits break_name
hypothesis_broken = refl

message_open : message_line (record { slot = 0; origin = 12; seq = 7; service = service.Tot; payload = [] }) false
    ≡ codes "message tot 12 7 open\n"
unfolding message_line line_of digits service_name
message_open = refl

-- 64 steps a line
journal_of_65_steps : journal_lines (replicate 64 (Turn 31) ++ Slot ∷ [])
    ≡ line_of (codes "journal" ∷ replicate 64 118 ∷ []) ∷ codes "journal .\n" ∷ []
unfolding journal_lines journal_line line_of step_letter
journal_of_65_steps = refl

-- the longest set
set_of_64_nodes : length (set_text (nodes 18446744073709551615)) ≡ 181
unfolding set_text nodes has digits
set_of_64_nodes = refl

-- behind `v`, the letter of node 31, come `w`, `z`, `A`, `Z`, `+` and `-`
letters_past_node_31 : map (λ i. step_letter (Turn i)) (32 ∷ 35 ∷ 36 ∷ 61 ∷ 62 ∷ 63 ∷ []) ≡ 119 ∷ 122 ∷ 65 ∷ 90 ∷ 43 ∷ 45 ∷ []
unfolding step_letter
letters_past_node_31 = refl
