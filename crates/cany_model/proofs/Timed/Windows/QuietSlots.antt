-- The quiet slot: of any so many consecutive slots as the bound has, one carried no frame of the
-- classes that win arbitration, and none of the lag slots before it may make a node ask for a frame
-- that accepts or for a vector. It was run in a quiet state.
use Rattle.std.proofs.Common.{◌≡◌, ℕ, suc, ◌+◌, ◌-◌, ◌*◌, ◌<◌, ◌≤◌, Bool, false, List, ◌∷◌, ◌++◌, count_by, drop, length, take, refl, ap, sym, ◌∙◌, subst, arith, add-zero, drop-drop, length-append}
use Rattle.std.specs.List.{range_with_len}
use Rattle.std.proofs.Math.Seq.{drop-append_seam}
use Rattle.std.proofs.lemmas.Bool.{both_ways, false_from_ne_true}
use Rattle.std.proofs.lemmas.List.{get_or-append-add}
use Rattle.std.proofs.lemmas.List.Elements.{All-drop}
use Rattle.cany_base.specs.declared.class.Class.{Class}
use Rattle.cany_base.specs.declared.class.Class.TheVariants as class
use Rattle.cany_base.specs.declared.slot_note.SlotNote.{SlotNote}
use Rattle.cany_base.specs.declared.step.Step.{Step}
use Rattle.cany_base.specs.Limits.{most_nodes}
use Rattle.cany_base.specs.Params.{MeetsFormulas, Parameters, top_frames}
use Rattle.cany_base.specs.Scenario.{ScenarioParts}
use Rattle.cany_model.specs.Runs.Run.{run}
use Rattle.cany_model.specs.Bus.Slot.{script, slot_note_of}
use Rattle.cany_model.specs.Bus.State.{RunState, node_at, opening, slots_run}
use Rattle.cany_model.specs.Promises.Hypothesis.{IsWithin, is_error_slot, is_partial_slot_of, is_silent_slot}
use Rattle.cany_model.specs.Promises.Quiet.{HasQuietSlots, IsQuiet, WasQuiet, asks_at, most_asking}
use Rattle.cany_model.specs.Promises.Windows.{HasFew, HasFewAccepts, HasFewLifeSigns, HasFewTotFrames, HasFewVectors, is_clean_of}
use Rattle.cany_model.proofs.Among.{count-drop}
use Rattle.cany_model.proofs.Runs.Journals.{run_then}
use Rattle.cany_model.proofs.Runs.Runs.{IsOrderly, MaySlot, orderly, slot_done}
use Rattle.cany_model.proofs.Runs.SlotStates.{slot_has_state, slot_state-trace, slot_state_is, trace_grows}
use Rattle.cany_model.proofs.Bus.States.{no_note, note_at}
use Rattle.cany_model.proofs.Timed.Windows.AskingSlots.{asking_slot, few_may_ask, may_make_ask, none_makes_ask}
use Rattle.cany_model.proofs.Timed.Common.Pigeonhole.{count_ages, count_shorter, free_number}
use Rattle.cany_model.proofs.Timed.Windows.TopFrames.{few_top_slots, is_top_slot, never_silent, none_waited}

-- ---- one slot

-- a slot that carried no top frame, where none of the lag slots before it may make a node ask, was
-- run in a quiet state
quiet_state : (scenario : ScenarioParts) (s : RunState) → IsOrderly scenario.params.nodes s → MaySlot scenario s
    → ((age : ℕ) → is_silent_slot (note_at s.trace age) ≡ false) → is_top_slot (slot_note_of (script scenario.rules) s) ≡ false
    → ((age : ℕ) → age < scenario.params.lag → may_make_ask scenario.params (note_at s.trace age) ≡ false) → IsQuiet scenario s
quiet_state scenario s orderly may plain top no_ask = record {
  waits = none_waited (script scenario.rules) s top;
  asks = λ i running age unread. false_from_ne_true (asks_at scenario s i age) (λ asks.
      both_ways (may_make_ask scenario.params (note_at s.trace age)) (no_ask age (omega (arith, unread, may.lag i running)))
      (asking_slot scenario s orderly i (node_at s.nodes i).present age (plain age) asks));
}

-- ---- an age that is free

-- the slot of the age carried no top frame, and none of the lag slots before it may make a node ask
record FreeAge (p : Parameters) (trace : List SlotNote) (newest : ℕ) : Type 0 where
  age : ℕ
  from : newest ≤ age
  to : age < newest + p.bound
  top : is_top_slot (note_at trace age) ≡ false
  no_ask : (k : ℕ) → k < p.lag → may_make_ask p (note_at trace (age + suc k)) ≡ false

-- the slots of a shorter window, by their ages
few_ages : (p : Parameters) (test : SlotNote → Bool) (most : ℕ) (trace : List SlotNote) → test no_note ≡ false → HasFew test most p trace
    → (newest : ℕ) → count_by (λ age. test (note_at trace age)) (range_with_len newest p.bound) ≤ most
few_ages p test most trace none few newest =
    let whole = count_ages test no_note none trace newest (p.bound + p.lag) in
    omega (arith, whole, few newest, count_shorter (λ age. test (note_at trace age)) newest p.bound (p.bound + p.lag) (omega arith))

free_age : (p : Parameters) (trace : List SlotNote) → MeetsFormulas p → HasFew is_top_slot (top_frames p.nodes + p.errors) p trace
    → HasFew (may_make_ask p) (most_asking p) p trace → (newest : ℕ) → FreeAge p trace newest
free_age p trace formulas few_top few_ask newest =
    let found = free_number (λ age. is_top_slot (note_at trace age)) (λ age. may_make_ask p (note_at trace age)) p.lag p.bound
    (top_frames p.nodes + p.errors) (most_asking p) (omega (arith, formulas.bound))
    (few_ages p is_top_slot (top_frames p.nodes + p.errors) trace refl few_top)
    (few_ages p (may_make_ask p) (most_asking p) trace (none_makes_ask p) few_ask) newest in
    record { age = found.0; from = found.1; to = found.2; top = found.3; no_ask = found.4 }

-- ---- every run

-- the slot of a free age was run in a quiet state
was_quiet : (scenario : ScenarioParts) (journal : List Step) → IsWithin scenario.params (run scenario journal).trace → (newest : ℕ)
    → (free : FreeAge scenario.params (run scenario journal).trace newest) → (t : ℕ) → t + suc free.age ≡ slots_run (run scenario journal)
    → WasQuiet scenario journal t
was_quiet scenario journal within newest free t place =
    let p : Parameters = scenario.params in
    let all : List SlotNote = (run scenario journal).trace in
    let there = slot_has_state scenario t journal (omega (arith, place)) in
    let s : RunState = there.0 in
    let older : List SlotNote = slot_note_of (script scenario.rules) s ∷ s.trace in
    let way = slot_state_is scenario t journal s there.1 in
    let split = slot_state-trace scenario t journal s there.1 in
    let newer : List SlotNote = split.0 in
    let size : length all ≡ length newer + suc (length s.trace) = ap length split.1 ∙ length-append newer older in
    let at : free.age ≡ length newer = omega (arith, size, place, way.number) in
    let note : (k : ℕ) → note_at all (free.age + k) ≡ note_at older k = λ k.
    ap (λ trace. note_at trace (free.age + k)) split.1 ∙ ap (λ age. note_at (newer ++ older) (age + k)) at
    ∙ get_or-append-add newer older k no_note in
    record {
      state = s;
      ran = there.1;
      quiet = quiet_state scenario s (subst (IsOrderly p.nodes) way.state (orderly scenario way.before)) (slot_done scenario s way.done)
          (λ age. ap is_silent_slot (sym (note (suc age))) ∙ never_silent p all within (free.age + suc age))
          (ap is_top_slot (sym (note 0)) ∙ ap (λ age. is_top_slot (note_at all age)) (add-zero free.age) ∙ free.top)
          (λ age below. ap (may_make_ask p) (sym (note (suc age))) ∙ free.no_ask age below);
    }

-- of any so many consecutive slots as the bound has, one was run in a quiet state
pub quiet_slots : (scenario : ScenarioParts) (journal : List Step) → scenario.params.nodes ≤ most_nodes → MeetsFormulas scenario.params
    → IsWithin scenario.params (run scenario journal).trace → HasFewAccepts scenario.params (run scenario journal).trace
    → HasFewVectors scenario.params (run scenario journal).trace → HasFewLifeSigns scenario.params (run scenario journal).trace
    → HasFewTotFrames scenario.params (run scenario journal).trace → HasQuietSlots scenario journal
quiet_slots scenario journal few formulas within accepts vectors signs sends first ran =
    let p : Parameters = scenario.params in
    let s : RunState = run scenario journal in
    let newest : ℕ = slots_run s - (first + p.bound) in
    let free = free_age p s.trace formulas (few_top_slots p s.trace within accepts vectors signs)
    (few_may_ask scenario s (orderly scenario journal) formulas within accepts vectors sends) newest in
    let t : ℕ = slots_run s - suc free.age in (
      t,
      omega (arith, free.to, ran),
      omega (arith, free.from, free.to, ran),
      was_quiet scenario journal within newest free t (omega (arith, free.to, ran)),
    )

-- ---- each front of a journal

-- what a window can have at most, one of an older trace has at most
pub few_dropped : (test : SlotNote → Bool) (most : ℕ) (p : Parameters) (trace : List SlotNote) (n : ℕ) → HasFew test most p trace
    → HasFew test most p (drop n trace)
few_dropped test most p trace n few newest =
    let same = ap (λ l. count_by test (take (p.bound + p.lag) l)) (drop-drop newest n trace) in
    omega (arith, same, few (n + newest))

-- and an older trace is within the hypothesis
pub within_dropped : (p : Parameters) (trace : List SlotNote) (n : ℕ) → IsWithin p trace → IsWithin p (drop n trace)
within_dropped p trace n within = record {
  silent = All-drop (λ note. is_silent_slot note ≡ false) n trace within.silent;
  omit = λ x. omega (arith, within.omit x, count-drop (is_partial_slot_of x) n trace);
  errors = few_dropped is_error_slot p.errors p trace n within.errors;
}

-- the trace of a front of a journal is what is left of that of the journal without its newest notes
pub front_trace : (scenario : ScenarioParts) (front rest : List Step)
    → (n : ℕ) × ((run scenario front).trace ≡ drop n (run scenario (front ++ rest)).trace)
front_trace scenario front rest =
    let s : RunState = run scenario front in
    let grows = trace_grows scenario s rest in
    let whole : (run scenario (front ++ rest)).trace ≡ grows.0 ++ s.trace =
    ap (λ (r : RunState). r.trace) (run_then scenario (opening scenario.params.nodes) front rest) ∙ grows.1 in
    (length grows.0, sym (ap (drop (length grows.0)) whole ∙ drop-append_seam grows.0 s.trace))

-- so each front of a journal has a quiet slot among so many
pub quiet_slots_of_front : (scenario : ScenarioParts) (front rest : List Step) → scenario.params.nodes ≤ most_nodes → MeetsFormulas scenario.params
    → IsWithin scenario.params (run scenario (front ++ rest)).trace → HasFewAccepts scenario.params (run scenario (front ++ rest)).trace
    → HasFewVectors scenario.params (run scenario (front ++ rest)).trace → HasFewLifeSigns scenario.params (run scenario (front ++ rest)).trace
    → HasFewTotFrames scenario.params (run scenario (front ++ rest)).trace → HasQuietSlots scenario front
quiet_slots_of_front scenario front rest few formulas within accepts vectors signs sends =
    let p : Parameters = scenario.params in
    let all : List SlotNote = (run scenario (front ++ rest)).trace in
    let part = front_trace scenario front rest in
    let few_there : (c : Class) (most : ℕ) → HasFew (is_clean_of c) most p all → HasFew (is_clean_of c) most p (run scenario front).trace =
    λ c most h. subst (HasFew (is_clean_of c) most p) (sym part.1) (few_dropped (is_clean_of c) most p all part.0 h) in
    quiet_slots scenario front few formulas (subst (IsWithin p) (sym part.1) (within_dropped p all part.0 within))
    (few_there class.Accept (2 * (p.nodes * p.nodes)) accepts) (few_there class.Rha (p.nodes * p.nodes + p.nodes) vectors)
    (few_there class.Els p.nodes signs) (few_there class.Tot p.nodes sends)
