-- Worked rows of a plan for two lines: how they are in a slot, which fault is refused, and the
-- scenario of one bus.
use Rattle.std.specs.Prelude.{ℕ, ◌≡◌, Bool, true, false, List, [], ◌∷◌, None, Some, drop, is_some, map, refl}
use Rattle.std.specs.List.{range_with_len}
use Rattle.cany_base.specs.declared.class.Class.TheVariants as class
use Rattle.cany_base.specs.declared.message.Service.TheVariants.{Ed}
use Rattle.cany_base.specs.declared.rule.Rule.{Rule}
use Rattle.cany_base.specs.declared.rule.Verdict.{Verdict}
use Rattle.cany_base.specs.declared.rule.Verdict.TheVariants.{Clean, Lost, Partial}
use Rattle.cany_base.specs.declared.slot_note.SlotNote.{SlotNote}
use Rattle.cany_base.specs.Nodes.{Nodes, has}
use Rattle.cany_base.specs.Params.{default_parameters}
use Rattle.cany_base.specs.Scenario.{ScenarioParts}
use Rattle.cany_model.proofs.RowWords.{frame_rule, run_words, scenario_of, send, set, slot_rule}
use Rattle.cany_model.specs.Runs.RoundRobin.{round_robin}
use Rattle.cany_media.specs.declared.line.Line.{Line}
use Rattle.cany_media.specs.declared.line.Line.TheVariants.{Whole, Down, Split}
use Rattle.cany_media.specs.Lines.{some_node}
use Rattle.cany_media.specs.MediaRun.{after_media_step, media_proceed, media_run, media_run_from, media_script}
use Rattle.cany_media.specs.Overlaps.{first_overlap, is_taken}
use Rattle.cany_media.specs.Plan.{FaultParts, lines_at}
use Rattle.cany_media.specs.Single.{blind_slots, single_bus, single_rules}

abbrev fault : ℕ → ℕ → ℕ → Line → FaultParts
fault line from to state = record { line = line; from = from; to = to; state = state }

-- line 0 is down in slots 2 to 4, line 1 is split in slots 4 to 6, and line 0 again in slot 6
abbrev plan : List FaultParts
plan = fault 0 2 4 Down ∷ fault 1 4 6 (Split (set 1)) ∷ fault 0 6 6 (Split (set 7)) ∷ []

-- ---- how the lines are

-- a fault has its first and its last slot; line 0 comes first
lines_of_each_slot :
    map (lines_at plan) (range_with_len 1 7)
    ≡ (Whole, Whole) ∷ (Down, Whole) ∷ (Down, Whole) ∷ (Down, Split (set 1)) ∷ (Whole, Split (set 1)) ∷ (Split (set 7), Split (set 1)) ∷ (Whole, Whole) ∷ []
lines_of_each_slot = refl

-- ---- which fault is refused

-- one that shares a slot with an earlier one of its line: with the last one, the first one, or
-- inside it; not one that begins where an earlier one has ended, and not one of the other line
first_overlaps :
    map first_overlap (
    (fault 0 2 4 Down ∷ fault 0 4 5 Down ∷ [])
    ∷ (fault 0 2 4 Down ∷ fault 1 2 4 Down ∷ fault 0 0 2 Down ∷ fault 1 2 4 Down ∷ [])
    ∷ (fault 1 3 3 Down ∷ fault 1 0 9 (Split (set 1)) ∷ [])
    ∷ (fault 0 2 4 Down ∷ fault 0 5 6 Down ∷ fault 0 0 1 Down ∷ fault 1 2 4 Down ∷ [])
    ∷ plan ∷ [] ∷ [])
    ≡ Some 1 ∷ Some 2 ∷ Some 1 ∷ None ∷ None ∷ None ∷ []
unfolding first_overlap is_taken
first_overlaps = refl

-- ---- the scenario of one bus

-- so many nodes and ten slots, with one EDCAN message of node 0 at slot 0
unfoldable scenario : ℕ → List Rule → ScenarioParts
unfolding scenario_of send
scenario nodes rules = scenario_of (default_parameters nodes 10) 7 (send Ed 0 0 (1 ∷ []) ∷ []) rules []

abbrev rules_of : ℕ → List FaultParts → List Rule → List Rule
rules_of nodes faults rules = (single_bus (scenario nodes rules) faults).rules

-- a slot in which line 0 is split by all nodes is not blind; a fourth node is parted from them
blind_slots_of : blind_slots (scenario 3 []) plan ∷ blind_slots (scenario 4 []) plan ∷ [] ≡ (4 ∷ []) ∷ (4 ∷ 6 ∷ []) ∷ []
unfolding scenario some_node has
blind_slots_of = refl

-- slots past the run are not counted
blind_slots_of_the_run : blind_slots (scenario 3 []) (fault 0 8 99 Down ∷ fault 1 0 99 Down ∷ []) ≡ 8 ∷ 9 ∷ []
unfolding scenario some_node has
blind_slots_of_the_run = refl

-- in a blind slot the frame is lost
blind_slot_loses_the_frame : rules_of 3 plan [] ≡ slot_rule 4 Lost 0 ∷ []
unfolding single_rules scenario some_node has slot_rule
blind_slot_loses_the_frame = refl

-- its rule goes, and the stops of it stay; rules for other slots and for frames stay, and first
rule_of_a_blind_slot_goes :
    rules_of 3 plan (slot_rule 3 (Partial (set 4)) 2 ∷ slot_rule 4 (Partial (set 4)) 6 ∷ frame_rule class.Ed 0 0 2 Lost 1 ∷ slot_rule 5 Clean 4 ∷ [])
    ≡ slot_rule 3 (Partial (set 4)) 2 ∷ frame_rule class.Ed 0 0 2 Lost 1 ∷ slot_rule 5 Clean 4 ∷ slot_rule 4 Lost 6 ∷ []
unfolding single_rules scenario some_node has slot_rule frame_rule
rule_of_a_blind_slot_goes = refl

-- a rule for a slot past the run stays, also where no line is whole there
rule_past_the_run_stays :
    rules_of 3 (fault 0 9 99 Down ∷ fault 1 9 99 Down ∷ []) (slot_rule 50 Clean 4 ∷ []) ≡ slot_rule 50 Clean 4 ∷ slot_rule 9 Lost 0 ∷ []
unfolding single_rules scenario some_node has slot_rule
rule_past_the_run_stays = refl

-- ---- the run over two media

-- whether a slot carried a frame, its verdict, and which nodes stopped at its end
abbrev seen : SlotNote → Bool × Verdict × Nodes
seen note = (is_some note.frame, note.verdict, note.stops)

-- In slot 1 no line is whole: the message is carried there and lost, node 2 stops as its rule says,
-- and the message is carried again.
media_run_loses_the_frame :
    (let sc = scenario 3 (slot_rule 1 Clean 4 ∷ []) in
    map seen (drop 6 (media_run sc (fault 0 1 1 Down ∷ fault 1 1 1 Down ∷ []) (round_robin sc)).trace))
    ≡ (true, Clean, set 0) ∷ (true, Clean, set 0) ∷ (true, Lost, set 4) ∷ (false, Clean, set 0) ∷ []
unfolding run_words scenario slot_rule media_run_from after_media_step media_proceed media_script some_node
media_run_loses_the_frame = refl
