-- Worked rows of nodes that start again and join: a node takes part in a membership cycle if it
-- takes part in the slot in which this starts.
use Rattle.std.specs.Prelude.{ℕ, ◌≡◌, ◌++◌, true, false, List, [], ◌∷◌, Option, Some, None, codes, map, refl}
use Rattle.cany_base.specs.declared.log_entry.LogEntry.{LogEntry}
use Rattle.cany_base.specs.declared.log_entry.LogEntry.TheVariants.{Failed, View}
use Rattle.cany_base.specs.declared.message.NodeAsk.{NodeAsk}
use Rattle.cany_base.specs.declared.rule.Rule.{Rule}
use Rattle.cany_base.specs.declared.rule.Verdict.TheVariants.{Clean, Lost, Partial}
use Rattle.cany_base.specs.declared.slot_note.SlotNote.{SlotNote}
use Rattle.cany_base.specs.declared.step.Step.{Step}
use Rattle.cany_base.specs.Frame.{FrameParts}
use Rattle.cany_base.specs.Nodes.{Nodes}
use Rattle.cany_base.specs.Scenario.{ScenarioParts}
use Rattle.cany_model.specs.declared.span.Span.{Span}
use Rattle.cany_model.specs.Bus.History.{is_hidden, seen}
use Rattle.cany_model.specs.Bus.Restart.{first_cycle, next_incarnation, restarted_in}
use Rattle.cany_model.specs.Bus.State.{RunState, original}
use Rattle.cany_rows.proofs.RestartRows.{incarnation, lives, restart_row, span, with_restarts}
use Rattle.cany_rows.proofs.RowWords.{carries, ed, idle, report, scenario, set, slot_rule, steps, three, run_of, walk_of, shown}
use Rattle.cany_rows.proofs.Site.SiteWords.{asks_at, els, fda, join, leave, of_members, rha, rounds_of, short_cycles, site_row, with_asks}

-- ---- what a row is written with

-- of a run by a journal the bus, the spans and the logs of the incarnations of each node, and the
-- nodes that started again at the end of these slots
pub record RejoinReport : Type 0 where
  pub bus : List SlotNote
  pub lives : List (List (Option Span × List LogEntry))
  pub restarted : List Nodes

unfoldable rejoin_report : ScenarioParts → List ℕ → RunState → RejoinReport
unfolding report lives restarted_in
rejoin_report sc slots s = record { bus = shown s.trace; lives = map (lives sc s) (0 ∷ 1 ∷ 2 ∷ []); restarted = map (restarted_in s) slots }

-- the frame of the second incarnation of its node
unfoldable again : FrameParts → FrameParts
again f = record f { inc = 1 }

unfoldable rejoin_row : Unit {0}
unfolding site_row restart_row rejoin_report again
rejoin_row = tt

-- ---- a node that joins again

-- Node 1 stops in slot 5, and the others take it out of the view. It starts again at the end of
-- slot 110 and takes part from slot 147 on, so it does not hear the vectors of cycle 2. It asks to
-- join in slot 190, and stands in the view of cycle 3.
unfoldable stopped_and_back : ScenarioParts
stopped_and_back =
    with_restarts (asks_at 110 1 ∷ []) (with_asks (asks_at 190 1 ∷ []) [] (of_members 7 (scenario (three 253 1 2) [] (slot_rule 5 Clean 2 ∷ []))))

unfoldable of_the_others : List (Option Span × List LogEntry)
of_the_others = (Some (span 0 None 253), Failed 73 1 1 ∷ View 108 1 (set 7) ∷ View 180 2 (set 5) ∷ View 252 3 (set 7) ∷ []) ∷ (None, []) ∷ []

-- the journal of this run, round robin
unfoldable its_journal : List Step
its_journal = steps (rounds_of 5 (codes ".012") ++ rounds_of 106 (codes ".02") ++ rounds_of 142 (codes ".012"))

restart_joins :
    (let walked = walk_of stopped_and_back in
    ◌≡◌ {A = List Step × RejoinReport} (walked.journal, rejoin_report stopped_and_back (109 ∷ 110 ∷ 111 ∷ []) walked.end) (
      its_journal,
      record {
        bus = idle 5 2 ∷ carries 37 (els 0 0) 1 4 Clean 0 ∷ carries 38 (els 2 0) 4 1 Clean 0 ∷ carries 73 (rha 0 1 7) 1 4 Clean 0
            ∷ carries 74 (rha 2 1 7) 4 1 Clean 0 ∷ carries 75 (fda 1 1) 5 0 Clean 0 ∷ carries 110 (els 0 1) 1 4 Clean 0
            ∷ carries 111 (els 2 1) 4 3 Clean 0 ∷ carries 145 (rha 0 2 5) 1 6 Clean 0 ∷ carries 146 (rha 2 2 5) 4 3 Clean 0
            ∷ carries 182 (els 0 2) 1 6 Clean 0 ∷ carries 183 (els 2 2) 4 3 Clean 0 ∷ carries 191 (again (join 1 2)) 2 5 Clean 0
            ∷ carries 217 (rha 0 3 7) 1 6 Clean 0 ∷ carries 218 (again (rha 1 3 7)) 2 5 Clean 0 ∷ carries 220 (els 2 3) 4 3 Clean 0 ∷ [];
        lives = of_the_others
            ∷ ((Some (span 0 (Some 5) 5), []) ∷ (Some (span 111 None 142), View 252 3 (set 7) ∷ []) ∷ (None, []) ∷ [])
            ∷ of_the_others ∷ [];
        restarted = set 0 ∷ set 2 ∷ set 0 ∷ [];
      },
    ))
unfolding rejoin_row stopped_and_back of_the_others its_journal
restart_joins = refl

-- ---- the first cycle

-- the first cycle that does not start before these slots, where cycles have 8 slots
first_cycles : map (first_cycle (short_cycles 1)) (0 ∷ 1 ∷ 7 ∷ 8 ∷ 9 ∷ 16 ∷ 17 ∷ []) ≡ 0 ∷ 1 ∷ 1 ∷ 1 ∷ 2 ∷ 2 ∷ 3 ∷ []
unfolding rejoin_row
first_cycles = refl

-- a node that starts again in slot 4 takes part from slot 8 on, in which cycle 1 starts; one slot
-- later it is too late for this
incarnations_of_restarts :
    map (λ slot. next_incarnation (short_cycles 1) slot original) (4 ∷ 5 ∷ 12 ∷ []) ≡ incarnation 1 5 8 1 ∷ incarnation 1 6 9 2 ∷ incarnation 1 13 16 2 ∷ []
unfolding rejoin_row
incarnations_of_restarts = refl

-- ---- what is hidden

-- From the one that is too late the vectors of cycle 1 are hidden, whatever comes of them. Other
-- frames are not, nor vectors of later cycles.
vectors_that_are_hidden :
    map (λ f. is_hidden (incarnation 1 6 9 2) (carries 9 f 1 6 Clean 0)) (rha 0 0 7 ∷ rha 0 1 7 ∷ rha 0 2 7 ∷ rha 0 3 7 ∷ els 0 1 ∷ fda 0 1 ∷ join 0 1 ∷ leave 0 1 ∷ ed 0 1 [] ∷ [])
    ≡ true ∷ true ∷ false ∷ false ∷ false ∷ false ∷ false ∷ false ∷ false ∷ []
unfolding rejoin_row
vectors_that_are_hidden = refl

slots_that_are_hidden :
    map (is_hidden (incarnation 1 6 9 2)) (carries 8 (els 0 1) 1 6 Clean 0 ∷ idle 8 0 ∷ idle 9 0 ∷ carries 9 (rha 0 1 7) 1 0 Lost 0 ∷ carries 9 (rha 0 1 7) 1 2 (Partial (set 4)) 0 ∷ [])
    ≡ true ∷ true ∷ false ∷ true ∷ true ∷ []
unfolding rejoin_row
slots_that_are_hidden = refl

nothing_is_hidden_from_the_first : is_hidden (record original { from = 9; cycle = 2 }) (carries 8 (rha 0 1 7) 1 6 Clean 0) ≡ false
unfolding rejoin_row
nothing_is_hidden_from_the_first = refl

-- a slot that is hidden is idle
hidden_slot_is_idle :
    seen (incarnation 1 6 9 2) (carries 10 (rha 0 2 7) 1 6 Clean 0 ∷ carries 9 (rha 0 1 7) 1 6 Clean 4 ∷ [])
    ≡ carries 10 (rha 0 2 7) 1 6 Clean 0 ∷ record (carries 9 (rha 0 1 7) 1 6 Clean 4) { frame = None } ∷ []
unfolding rejoin_row
hidden_slot_is_idle = refl

-- ---- runs with short cycles

-- A life sign is due 5 slots after the last, and 9 slots are silence. Node 1 stops in slot 1.
unfoldable node_1_stops : ℕ → List Rule → List NodeAsk → List NodeAsk → ScenarioParts
node_1_stops slots rules joins restarts =
    with_restarts restarts (with_asks joins [] (of_members 7 (scenario (record (three slots 1 2) { bound = 3; cycle = 8; life = 5; silence = 9 }) [] (slot_rule 1 Clean 2 ∷ rules))))

-- the first lines of the bus
unfoldable before_the_cycle : List SlotNote
before_the_cycle = idle 1 2 ∷ carries 6 (els 0 0) 1 6 Clean 0 ∷ carries 7 (els 2 0) 4 3 Clean 0 ∷ carries 9 (rha 0 1 7) 1 6 Clean 0 ∷ []

-- Back in slot 4, it takes part in cycle 1: it takes over the vector that it gets, and sends it. So
-- it stands in view 1, and forgets that it was told to have failed. The others do not: it is their
-- member, and not newly admitted. They leave it out of view 2. Its first ask is made too early, and
-- at the second it is a member.
-- It stops again in slot 20, and starts again.
unfoldable back_in_time : ScenarioParts
back_in_time = node_1_stops 22 (slot_rule 20 Clean 2 ∷ []) (asks_at 7 1 ∷ asks_at 12 1 ∷ []) (asks_at 4 1 ∷ asks_at 21 1 ∷ [])

unfoldable log_in_time : List (Option Span × List LogEntry)
log_in_time = (Some (span 0 None 22), Failed 9 1 1 ∷ View 11 1 (set 7) ∷ View 19 2 (set 5) ∷ []) ∷ (None, []) ∷ []

takes_part_in_the_cycle_of_its_first_slot : rejoin_report back_in_time (4 ∷ 21 ∷ []) (run_of back_in_time) ≡ record {
  bus = before_the_cycle
      ++ carries 10 (again (rha 1 1 7)) 2 5 Clean 0 ∷ carries 11 (fda 1 1) 5 2 Clean 0 ∷ carries 12 (fda 1 1) 2 5 Clean 0 ∷ carries 13 (els 2 1) 4 3 Clean 0
      ∷ carries 15 (els 0 1) 1 6 Clean 0 ∷ carries 17 (rha 0 2 5) 1 6 Clean 0 ∷ carries 18 (again (rha 1 2 5)) 2 5 Clean 0
      ∷ carries 19 (again (els 1 0)) 2 5 Clean 0 ∷ carries 20 (els 2 2) 4 3 Clean 2 ∷ [];
  lives = log_in_time
      ∷ ((Some (span 0 (Some 1) 1), []) ∷ (Some (span 5 (Some 20) 15), Failed 11 1 1 ∷ View 11 1 (set 7) ∷ []) ∷ (Some (span 22 None 0), []) ∷ (None, []) ∷ [])
      ∷ log_in_time ∷ [];
  restarted = set 2 ∷ set 2 ∷ [];
}
unfolding rejoin_row node_1_stops before_the_cycle back_in_time log_in_time
takes_part_in_the_cycle_of_its_first_slot = refl

-- Back in slot 5, it is too late for cycle 1: the vectors of this are hidden from it, so it sends
-- none, and has no view of it. Its ask of slot 12 is not heard, since it is a member for the
-- others. That of slot 20 is, and cycle 3 admits it.
unfoldable back_too_late : ScenarioParts
back_too_late = node_1_stops 29 [] (asks_at 7 1 ∷ asks_at 12 1 ∷ asks_at 20 1 ∷ []) (asks_at 5 1 ∷ [])

unfoldable log_too_late : List (Option Span × List LogEntry)
log_too_late = (Some (span 0 None 29), Failed 9 1 1 ∷ View 11 1 (set 7) ∷ View 19 2 (set 5) ∷ View 27 3 (set 7) ∷ []) ∷ (None, []) ∷ []

takes_no_part_in_an_earlier_cycle : rejoin_report back_too_late (4 ∷ 5 ∷ []) (run_of back_too_late) ≡ record {
  bus = before_the_cycle
      ++ carries 10 (rha 2 1 7) 4 3 Clean 0 ∷ carries 11 (fda 1 1) 5 2 Clean 0 ∷ carries 12 (fda 1 1) 2 5 Clean 0 ∷ carries 13 (again (join 1 1)) 2 5 Clean 0
      ∷ carries 15 (els 0 1) 1 6 Clean 0 ∷ carries 16 (els 2 1) 4 3 Clean 0 ∷ carries 17 (rha 0 2 5) 1 6 Clean 0 ∷ carries 18 (again (rha 1 2 5)) 2 5 Clean 0
      ∷ carries 21 (again (join 1 2)) 2 5 Clean 0 ∷ carries 22 (els 2 2) 4 3 Clean 0 ∷ carries 23 (els 0 2) 1 6 Clean 0 ∷ carries 25 (rha 0 3 7) 1 6 Clean 0
      ∷ carries 26 (again (rha 1 3 7)) 2 5 Clean 0 ∷ carries 28 (els 2 3) 4 3 Clean 0 ∷ [];
  lives = log_too_late
      ∷ ((Some (span 0 (Some 1) 1), []) ∷ (Some (span 6 None 23), Failed 11 1 1 ∷ View 27 3 (set 7) ∷ []) ∷ (None, []) ∷ [])
      ∷ log_too_late ∷ [];
  restarted = set 0 ∷ set 2 ∷ [];
}
unfolding rejoin_row node_1_stops before_the_cycle back_too_late log_too_late
takes_no_part_in_an_earlier_cycle = refl
