-- Worked rows of entries that did nothing, on states that no run has to have: what a node did in a
-- slot, and what a rule or an ask came to.
use Rattle.std.specs.Prelude.{◌≡◌, ℕ, ◌-◌, true, false, List, [], ◌∷◌, Option, Some, None, map, refl}
use Rattle.std.specs.List.{range_with_len}
use Rattle.cany_base.specs.declared.class.Class.{Class}
use Rattle.cany_base.specs.declared.class.Class.TheVariants as class
use Rattle.cany_base.specs.declared.rule.Verdict.{Verdict}
use Rattle.cany_base.specs.declared.rule.Verdict.TheVariants.{Clean, Lost, Partial, Silent}
use Rattle.cany_base.specs.declared.slot_note.SlotNote.{SlotNote}
use Rattle.cany_base.specs.Frame.{FrameParts}
use Rattle.cany_base.specs.Nodes.{has, bits_where, those_where}
use Rattle.cany_base.specs.Params.{default_parameters}
use Rattle.cany_base.specs.Scenario.{ScenarioParts}
use Rattle.cany_model.specs.Bus.Frames.{same_class, same_identity}
use Rattle.cany_model.specs.Bus.Restart.{restarted_in}
use Rattle.cany_model.specs.Bus.State.{RunState, fresh, node_at, original}
use Rattle.cany_model.proofs.RowWords.{ask, scenario_of, set}
use Rattle.cany_check.specs.declared.unused_entries.unused_entry.NoAsk.TheVariants.{From, Stopped}
use Rattle.cany_check.specs.declared.unused_entries.unused_entry.NoFault.{NoFault}
use Rattle.cany_check.specs.declared.unused_entries.unused_entry.NoFault.TheVariants.{Idle, RejectsNobody, StopsNobody}
use Rattle.cany_check.specs.Idle.Unused.{attempt_slot, is_carried_later, is_unused_restart, missed, ran_in, unused_stops, unused_verdict}

-- ---- a state of three nodes after ten slots

abbrev frame : Class → (number node : ℕ) → FrameParts
frame c number node = record { class = c; number = number; node = node; inc = 0; payload = [] }

-- a slot that carried a frame of node 0, or none
abbrev note : ℕ → Option FrameParts → SlotNote
note slot carried = record { slot = slot; frame = carried; senders = set 1; takers = set 0; verdict = Clean; stops = set 2 }

-- node 0 runs all the time; node 1 stopped in slot 5; node 2 stopped in slot 2, has its first
-- notice again in slot 8, and takes part since slot 60
abbrev state_with : List SlotNote → RunState
state_with trace = record {
  trace = trace;
  nodes =
      fresh
      ∷ record fresh { stopped = Some 5 }
      ∷ record fresh {
        present = record { number = 1; since = 8; from = 60; cycle = 1 };
        ended = record { incarnation = original; next = 2; stopped = Some 2 } ∷ [];
      } ∷ [];
}

-- ten idle slots, newest first
abbrev ten_slots : RunState
ten_slots = state_with (map (λ age. note (9 - age) None) (range_with_len 0 10))

-- ---- what a node did

-- it runs in the slot of its stop yet, and again from its first notice on
who_ran :
    map (λ slot. map (ran_in ten_slots slot) (0 ∷ 1 ∷ 2 ∷ [])) (2 ∷ 3 ∷ 5 ∷ 6 ∷ 7 ∷ 8 ∷ [])
    ≡ (true ∷ true ∷ true ∷ []) ∷ (true ∷ true ∷ false ∷ []) ∷ (true ∷ true ∷ false ∷ [])
    ∷ (true ∷ false ∷ false ∷ []) ∷ (true ∷ false ∷ false ∷ []) ∷ (true ∷ false ∷ true ∷ []) ∷ []
unfolding node_at
who_ran = refl

-- node 2 made its asks of the notices that it read before its stop; none of slots that it was not
-- there for, and none before the slot since which it takes part
which_asks_are_missed :
    map (λ slot. missed ten_slots slot 2) (1 ∷ 2 ∷ 7 ∷ 8 ∷ 9 ∷ [])
    ≡ None ∷ Some Stopped ∷ Some Stopped ∷ Some (From 60) ∷ Some (From 60) ∷ []
unfolding node_at
which_asks_are_missed = refl

-- ---- restarts

-- node 2 started again at the end of slot 7, and no other at any
which_restarts_are_unused :
    map (is_unused_restart ten_slots) (ask 7 2 ∷ ask 6 2 ∷ ask 8 2 ∷ ask 7 1 ∷ [])
    ≡ false ∷ true ∷ true ∷ true ∷ []
unfolding node_at restarted_in has bits_where those_where ask
which_restarts_are_unused = refl

-- ---- the verdict of a rule

abbrev carried : ℕ → Option SlotNote
carried slot = Some (note slot (Some (frame class.Ed 0 0)))

abbrev idle : Option SlotNote
idle = Some (note 4 None)

abbrev unused_by : ℕ → Verdict → Option SlotNote → List NoFault
unused_by slot verdict found = unused_verdict ten_slots slot verdict found

-- only a Clean verdict can stand at a slot that carries nothing, or that did not run
verdicts_of_idle_slots :
    unused_by 4 Clean idle ∷ unused_by 4 Lost idle ∷ unused_by 4 (Partial (set 2)) idle ∷ unused_by 4 Lost None ∷ []
    ≡ [] ∷ (Idle 4 ∷ []) ∷ (Idle 4 ∷ []) ∷ (Idle 4 ∷ []) ∷ []
unfolding has
verdicts_of_idle_slots = refl

-- A verdict rejects nobody where no node of its set ran and did not send: node 0 sent, node 1 runs
-- up to slot 5, node 2 does not run. One with an empty set is none that rejects.
verdicts_that_reject_nobody :
    unused_by 4 Lost (carried 4) ∷ unused_by 4 (Partial (set 0)) (carried 4) ∷ unused_by 4 (Partial (set 1)) (carried 4) ∷ unused_by 4 (Silent (set 5)) (carried 4)
    ∷ unused_by 4 (Partial (set 3)) (carried 4) ∷ unused_by 5 (Silent (set 2)) (carried 5) ∷ unused_by 6 (Silent (set 2)) (carried 6) ∷ []
    ≡ [] ∷ [] ∷ (RejectsNobody 4 ∷ []) ∷ (RejectsNobody 4 ∷ []) ∷ [] ∷ [] ∷ (RejectsNobody 6 ∷ []) ∷ []
unfolding node_at has
verdicts_that_reject_nobody = refl

-- the stops of a rule did something where one of its nodes stopped: here node 1 did
stops_of_nobody :
    map (λ stop. unused_stops 4 (set stop) idle) (0 ∷ 2 ∷ 6 ∷ 4 ∷ []) ≡ [] ∷ [] ∷ [] ∷ (StopsNobody 4 ∷ []) ∷ []
unfolding has
stops_of_nobody = refl

-- ---- frames

-- an EDCAN frame of node 0 in slots 1 and 3, and in slot 4 the frame by which node 1 asks to join
-- in cycle 0
abbrev carrying : RunState
carrying = state_with (
    note 4 (Some (frame class.Join 0 1)) ∷ note 3 (Some (frame class.Ed 0 0)) ∷ note 2 None ∷ note 1 (Some (frame class.Ed 0 0)) ∷ note 0 None ∷ [])

slots_of_attempts :
    map (λ nth. attempt_slot (record { class = class.Ed; number = 0; node = 0 }) nth carrying.trace) (0 ∷ 1 ∷ 2 ∷ 3 ∷ []) ≡ None ∷ Some 1 ∷ Some 3 ∷ None ∷ []
unfolding attempt_slot same_identity same_class
slots_of_attempts = refl

abbrev scenario : ScenarioParts
scenario = scenario_of (default_parameters 3 10) 7 [] [] []

-- an ask came to something where a later slot carried its frame: not the slot itself, and not an
-- earlier one
asks_that_are_carried :
    map (λ slot. is_carried_later scenario carrying class.Join (ask slot 1)) (3 ∷ 4 ∷ 5 ∷ []) ≡ true ∷ false ∷ false ∷ []
unfolding same_identity same_class ask scenario_of
asks_that_are_carried = refl

-- and where it was that of the node, of the class and of the cycle
asks_of_others :
    is_carried_later scenario carrying class.Join (ask 3 2) ∷ is_carried_later scenario carrying class.Leave (ask 3 1) ∷ is_carried_later scenario carrying class.Join (ask 80 1) ∷ []
    ≡ false ∷ false ∷ false ∷ []
unfolding same_identity same_class ask scenario_of
asks_of_others = refl
