-- The states in which the slots of a run are run: each is the run of the journal up to there, and
-- each slot that ran has one.
use Rattle.std.specs.Prelude.{◌≡◌, ℕ, suc, ◌<◌, ◌≤◌, ◌==◌, true, false, List, [], ◌∷◌, ◌++◌, Some, length, refl}
use Rattle.std.proofs.Common.{sym, ap, ◌∙◌, subst, inl, inr, arith, append_assoc, eqb-true}
use Rattle.std.proofs.lemmas.Bool.{and_from, and_parts, cases_Bool, cases_eq, eq-eqb, false≢true}
use Rattle.cany_base.specs.declared.slot_note.SlotNote.{SlotNote}
use Rattle.cany_base.specs.declared.step.Step.{Step}
use Rattle.cany_base.specs.declared.step.Step.TheVariants as step
use Rattle.cany_base.specs.Scenario.{ScenarioParts}
use Rattle.cany_model.specs.Runs.Run.{after_step, is_done, proceed, reply, run, run_from, runs_slot, slot_state, slot_state_from}
use Rattle.cany_model.specs.Bus.Slot.{script, slot_note_of}
use Rattle.cany_model.specs.Bus.State.{RunState, opening, slots_run}
use Rattle.cany_model.proofs.Runs.Journals.{run_then, slot_step-trace, step_is, step_refused}
use Rattle.cany_model.proofs.Runs.Steps.{after_turn-trace}

-- ---- from a state on

-- the rest of a journal runs slot t in this state
pub record RunsIn (scenario : ScenarioParts) (t : ℕ) (first : RunState) (journal : List Step) (s : RunState) : Type 0 where
  pub before : List Step
  pub after : List Step
  pub whole : journal ≡ before ++ (step.Slot ∷ after)
  pub state : run_from scenario first before ≡ s
  pub done : is_done (reply scenario s step.Slot) ≡ true
  pub number : slots_run s ≡ t

later : (scenario : ScenarioParts) (t : ℕ) (first : RunState) (step : Step) (journal : List Step) (s : RunState)
    → RunsIn scenario t (after_step scenario first step) journal s → RunsIn scenario t first (step ∷ journal) s
unfolding run_from
later scenario t first step journal s h = record {
  before = step ∷ h.before;
  after = h.after;
  whole = ap (λ rest. step ∷ rest) h.whole;
  state = h.state;
  done = h.done;
  number = h.number;
}

some_state : (r s : RunState) → Some r ≡ Some s → r ≡ s
some_state r s e = cc

runs_here : (scenario : ScenarioParts) (t : ℕ) (first : RunState) (step : Step) (journal : List Step) → runs_slot scenario t first step ≡ true
    → RunsIn scenario t first (step ∷ journal) first
unfolding run_from
runs_here scenario t first step.Slot journal h =
    let parts = and_parts (is_done (reply scenario first step.Slot)) (slots_run first == t) h in
    record { before = []; after = journal; whole = refl; state = refl; done = parts.0; number = eqb-true (slots_run first) t parts.1 }
runs_here scenario t first (step.Turn i) journal h = absurd (false≢true h)

runs_from : (scenario : ScenarioParts) (t : ℕ) (first : RunState) (journal : List Step) (s : RunState) → slot_state_from scenario t first journal ≡ Some s
    → RunsIn scenario t first journal s
unfolding slot_state_from
runs_from scenario t first [] s e = absurd (cc)
runs_from scenario t first (step ∷ journal) s e = elim (cases_Bool (runs_slot scenario t first step)) [
  | inl here ↦ subst (RunsIn scenario t first (step ∷ journal)) (some_state first s (rw here at e)) (runs_here scenario t first step journal here)
  | inr other ↦ later scenario t first step journal s (runs_from scenario t (after_step scenario first step) journal s (rw other at e))
]

-- a step that does not run slot t leaves it to come
not_yet : (scenario : ScenarioParts) (t : ℕ) (first : RunState) (next : Step) → slots_run first ≤ t → runs_slot scenario t first next ≡ false
    → slots_run (after_step scenario first next) ≤ t
unfolding proceed
not_yet scenario t first next h other = elim (cases_Bool (is_done (reply scenario first next))) [
  | inr refused ↦ subst (λ (s : RunState). slots_run s ≤ t) (sym (step_refused scenario first next refused)) h
  | inl done ↦ subst (λ (s : RunState). slots_run s ≤ t) (sym (step_is scenario first next done)) (moved next other done)
]
  where
    moved : (made : Step) → runs_slot scenario t first made ≡ false → is_done (reply scenario first made) ≡ true → slots_run (proceed scenario first made) ≤ t
    moved step.Slot other done = elim (cases_eq (slots_run first) t) [
      | inl now ↦ absurd (false≢true (sym other ∙ and_from (is_done (reply scenario first step.Slot)) (slots_run first == t) done (eq-eqb (slots_run first) t now)))
      | inr early ↦
          let longer : slots_run (proceed scenario first step.Slot) ≡ suc (slots_run first) = ap length (slot_step-trace scenario first) in
          omega arith
    ]
    moved (step.Turn i) other done = subst (λ (trace : List SlotNote). length trace ≤ t) (sym (after_turn-trace scenario i first)) h

has_state : (scenario : ScenarioParts) (t : ℕ) (first : RunState) (journal : List Step) → slots_run first ≤ t → t < slots_run (run_from scenario first journal)
    → (s : RunState) × (slot_state_from scenario t first journal ≡ Some s)
unfolding slot_state_from run_from
has_state scenario t first [] h ran = absurd (omega arith)
has_state scenario t first (step ∷ journal) h ran = elim (cases_Bool (runs_slot scenario t first step)) [
  | inl here ↦ (first, rw here refl)
  | inr other ↦
      let rest = has_state scenario t (after_step scenario first step) journal (not_yet scenario t first step h other) ran in
      (rest.0, rw other rest.1)
]

-- ---- of a run

-- the state in which a slot is run is the run of the journal before the step that runs it
pub slot_state_is : (scenario : ScenarioParts) (t : ℕ) (journal : List Step) (s : RunState) → slot_state scenario t journal ≡ Some s
    → RunsIn scenario t (opening scenario.params.nodes) journal s
slot_state_is scenario t journal s e = runs_from scenario t (opening scenario.params.nodes) journal s e

-- and each slot that ran has one
pub slot_has_state : (scenario : ScenarioParts) (t : ℕ) (journal : List Step) → t < slots_run (run scenario journal)
    → (s : RunState) × (slot_state scenario t journal ≡ Some s)
slot_has_state scenario t journal ran = has_state scenario t (opening scenario.params.nodes) journal (omega arith) ran

-- ---- the trace

-- a longer journal puts notes in front
pub trace_grows : (scenario : ScenarioParts) (s : RunState) (journal : List Step) → (newer : List SlotNote) × ((run_from scenario s journal).trace ≡ newer ++ s.trace)
unfolding run_from proceed
trace_grows scenario s [] = ([], refl)
trace_grows scenario s (next ∷ journal) =
    let rest = trace_grows scenario (after_step scenario s next) journal in
    elim (cases_Bool (is_done (reply scenario s next))) [
      | inr refused ↦ (rest.0, rest.1 ∙ ap (λ (r : RunState). rest.0 ++ r.trace) (step_refused scenario s next refused))
      | inl done ↦ by_step next (rest.0, rest.1 ∙ ap (λ (r : RunState). rest.0 ++ r.trace) (step_is scenario s next done))
    ]
  where
    by_step : (made : Step) → (newer : List SlotNote) × ((run_from scenario (after_step scenario s next) journal).trace ≡ newer ++ (proceed scenario s made).trace)
        → (newer : List SlotNote) × ((run_from scenario (after_step scenario s next) journal).trace ≡ newer ++ s.trace)
    by_step step.Slot h = (
      h.0 ++ (slot_note_of (script scenario.rules) s ∷ []),
      h.1 ∙ ap (λ trace. h.0 ++ trace) (slot_step-trace scenario s) ∙ sym (append_assoc h.0 (slot_note_of (script scenario.rules) s ∷ []) s.trace),
    )
    by_step (step.Turn i) h = (h.0, h.1 ∙ ap (λ trace. h.0 ++ trace) (after_turn-trace scenario i s))

-- the note of a slot in the trace of the run is that of the state in which it is run
pub slot_state-trace : (scenario : ScenarioParts) (t : ℕ) (journal : List Step) (s : RunState) → slot_state scenario t journal ≡ Some s
    → (newer : List SlotNote) × ((run scenario journal).trace ≡ newer ++ (slot_note_of (script scenario.rules) s ∷ s.trace))
unfolding run_from
slot_state-trace scenario t journal s e =
    let w = slot_state_is scenario t journal s e in
    let next : RunState = proceed scenario s step.Slot in
    let grows = trace_grows scenario next w.after in
    let split : run scenario journal ≡ run_from scenario (run_from scenario (opening scenario.params.nodes) w.before) (step.Slot ∷ w.after) =
    ap (run scenario) w.whole ∙ run_then scenario (opening scenario.params.nodes) w.before (step.Slot ∷ w.after) in
    let here : run scenario journal ≡ run_from scenario next w.after =
    split ∙ ap (λ (r : RunState). run_from scenario r (step.Slot ∷ w.after)) w.state ∙ ap (λ (r : RunState). run_from scenario r w.after) (step_is scenario s step.Slot w.done) in
    (grows.0, ap (λ (r : RunState). r.trace) here ∙ grows.1 ∙ ap (λ trace. grows.0 ++ trace) (slot_step-trace scenario s))
