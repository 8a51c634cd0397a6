-- A stretch of idle slots: the steps that round robin makes in it, of which no turn before the last
-- slot does anything, and the state that they leave.
use Rattle.std.specs.Prelude.{◌≡◌, ℕ, zero, suc, ◌+◌, ◌≤◌, true, List, [], ◌∷◌, ◌++◌, length, map, filter, refl}
use Rattle.std.specs.List.{range_with_len}
use Rattle.std.proofs.Common.{sym, ap, ◌∙◌, subst, inl, inr, arith, append_assoc, add-one}
use Rattle.std.proofs.lemmas.Bool.{cases_Bool, cases_lt}
use Rattle.std.proofs.lemmas.List.{append-nil, length-map}
use Rattle.cany_base.specs.declared.slot_note.SlotNote.{SlotNote}
use Rattle.cany_base.specs.declared.step.Step.{Step}
use Rattle.cany_base.specs.declared.step.Step.TheVariants.{Slot, Turn}
use Rattle.cany_base.specs.Scenario.{ScenarioParts}
use Rattle.cany_model.specs.Bus.History.{history}
use Rattle.cany_model.specs.Runs.RoundRobin.{round, rounds}
use Rattle.cany_model.specs.Runs.Run.{IsLegal, proceed, run, run_from}
use Rattle.cany_model.specs.Bus.State.{NodeState, RunState, node_at, opening, runs, slots_run}
use Rattle.cany_model.specs.Rules.Effect.{Effect}
use Rattle.cany_model.specs.Rules.Turn.{effects_for}
use Rattle.cany_model.proofs.Runs.Journals.{legal_then, run_then}
use Rattle.cany_model.proofs.Runs.Runs.{IsOrderly, orderly}
use Rattle.cany_model.proofs.Bus.States.{node_at_past, runs_within}
use Rattle.can_bus.specs.Rest.{idle_note, idle_trace}
use Rattle.can_bus.proofs.RestFacts.{length-idle_trace}
use Rattle.cany_world.proofs.Idle.IdleSlots.{HasNothingToDo, MayRest, after_rest, idle_round, idle_rounds, rested}
use Rattle.cany_world.proofs.Idle.IdleRound.{IsAfterRound, IsIdleNext, LeadsTo, RoundLeads, idle_next, idle_round_leads, leads_nowhere, leads_then, node_at-map, rested_running, rested_stopped, round-is, round_leads, slot_leads}

-- ---- one slot, and then more

idle_trace_more : (slots : ℕ) (trace : List SlotNote) → idle_trace slots (idle_trace 1 trace) ≡ idle_trace (suc slots) trace
unfolding idle_trace
idle_trace_more zero trace = refl
idle_trace_more (suc slots) trace = ap (λ t. idle_note (length t) ∷ t) (idle_trace_more slots trace)

rested_runs : (slots : ℕ) (node : NodeState) → runs (rested slots node) ≡ runs node
rested_runs slots node = elim (cases_Bool (runs node)) [
  | inl running ↦ ap (λ n. runs n) (rested_running slots node running)
  | inr stopped ↦ ap (λ n. runs n) (rested_stopped slots node stopped)
]

rested_more : (slots : ℕ) (node : NodeState) → rested slots (rested 1 node) ≡ rested (suc slots) node
rested_more slots node = elim (cases_Bool (runs node)) [
  | inl running ↦
      ap (rested slots) (rested_running 1 node running) ∙ rested_running slots node running ∙ sym (rested_running (suc slots) node running)
  | inr stopped ↦
      let sum : node.unread + 1 + slots ≡ node.unread + suc slots = omega arith in
      ap (rested slots) (rested_stopped 1 node stopped) ∙ rested_stopped slots (record node { unread = node.unread + 1 }) stopped
      ∙ ap (λ n. record node { unread = n }) sum ∙ sym (rested_stopped (suc slots) node stopped)
]

all_rested_more : (slots : ℕ) (nodes : List NodeState) → map (rested slots) (map (rested 1) nodes) ≡ map (rested (suc slots)) nodes
all_rested_more slots [] = refl
all_rested_more slots (node ∷ nodes) = λ k. (rested_more slots node) k ∷ (all_rested_more slots nodes) k

pub after_rest_more : (slots : ℕ) (s : RunState) → after_rest slots (after_rest 1 s) ≡ after_rest (suc slots) s
after_rest_more slots s = λ k. record { trace = (idle_trace_more slots s.trace) k; nodes = (all_rested_more slots s.nodes) k }

-- and one slot after them
rested_then : (slots : ℕ) (node : NodeState) → rested 1 (rested slots node) ≡ rested (slots + 1) node
rested_then slots node = elim (cases_Bool (runs node)) [
  | inl running ↦
      ap (rested 1) (rested_running slots node running) ∙ rested_running 1 node running ∙ sym (rested_running (slots + 1) node running)
  | inr stopped ↦
      let sum : node.unread + slots + 1 ≡ node.unread + (slots + 1) = omega arith in
      ap (rested 1) (rested_stopped slots node stopped) ∙ rested_stopped 1 (record node { unread = node.unread + slots }) stopped
      ∙ ap (λ n. record node { unread = n }) sum ∙ sym (rested_stopped (slots + 1) node stopped)
]

all_rested_then : (slots : ℕ) (nodes : List NodeState) → map (rested 1) (map (rested slots) nodes) ≡ map (rested (slots + 1)) nodes
all_rested_then slots [] = refl
all_rested_then slots (node ∷ nodes) = λ k. (rested_then slots node) k ∷ (all_rested_then slots nodes) k

pub trace_then : (slots : ℕ) (trace : List SlotNote) → idle_trace 1 (idle_trace slots trace) ≡ idle_trace (slots + 1) trace
unfolding idle_trace
trace_then slots trace = ap (λ n. idle_trace n trace) (sym (add-one slots))

pub after_rest_then : (slots : ℕ) (s : RunState) → after_rest 1 (after_rest slots s) ≡ after_rest (slots + 1) s
after_rest_then slots s = λ k. record { trace = (trace_then slots s.trace) k; nodes = (all_rested_then slots s.nodes) k }

rested_none : (node : NodeState) → rested 0 node ≡ node
rested_none node = elim (cases_Bool (runs node)) [
  | inl running ↦ rested_running 0 node running
  | inr stopped ↦
      let same : node.unread + 0 ≡ node.unread = omega arith in
      rested_stopped 0 node stopped ∙ ap (λ n. record node { unread = n }) same
]

all_rested_none : (nodes : List NodeState) → map (rested 0) nodes ≡ nodes
all_rested_none [] = refl
all_rested_none (node ∷ nodes) = λ k. (rested_none node) k ∷ (all_rested_none nodes) k

pub after_rest_none : (s : RunState) → after_rest 0 s ≡ s
unfolding idle_trace
after_rest_none s = λ k. record { trace = s.trace; nodes = (all_rested_none s.nodes) k }

-- ---- who runs stays

pub still_runs : (slots : ℕ) (s : RunState) (i : ℕ) → runs (node_at (after_rest slots s).nodes i) ≡ runs (node_at s.nodes i)
still_runs slots s i = elim (cases_lt i (length s.nodes)) [
  | inl within ↦ ap (λ n. runs n) (node_at-map (rested slots) s.nodes i within) ∙ rested_runs slots (node_at s.nodes i)
  | inr past ↦
      let past' : length (map (rested slots) s.nodes) ≤ i = omega (arith, past, length-map s.nodes (rested slots)) in
      ap (λ (n : NodeState). runs n) (node_at_past (map (rested slots) s.nodes) i past' ∙ sym (node_at_past s.nodes i past))
]

-- a running node is as it was
pub still_is : (slots : ℕ) (s : RunState) (i : ℕ) → runs (node_at s.nodes i) ≡ true → node_at (after_rest slots s).nodes i ≡ node_at s.nodes i
still_is slots s i running =
    node_at-map (rested slots) s.nodes i (runs_within s.nodes i running) ∙ rested_running slots (node_at s.nodes i) running

-- so the same nodes make their turns in each of the slots

same_idle_round : (s : RunState) → idle_round (after_rest 1 s).nodes ≡ idle_round s.nodes
same_idle_round s =
    let tests : (λ i. runs (node_at (after_rest 1 s).nodes i)) ≡ (λ i. runs (node_at s.nodes i)) = λ k i. (still_runs 1 s i) k in
    λ k. Slot ∷ map (λ i. Turn i) (filter (tests k) (range_with_len 0 ((length-map s.nodes (rested 1)) k)))

same_idle_rounds : (slots : ℕ) (s : RunState) → idle_rounds slots (after_rest 1 s).nodes ≡ idle_rounds slots s.nodes
unfolding idle_rounds
same_idle_rounds zero s = refl
same_idle_rounds (suc slots) s = λ k. (same_idle_round s) k ++ (same_idle_rounds slots s) k

-- ---- the rest goes on

-- after one of the slots the others are idle too
pub rest_goes_on : (scenario : ScenarioParts) (s : RunState) (slots : ℕ) → MayRest scenario s (suc slots) → MayRest scenario (after_rest 1 s) slots
rest_goes_on scenario s slots may =
    let longer : slots_run (after_rest 1 s) ≡ slots_run s + 1 = omega (arith, length-idle_trace 1 s.trace) in
    record {
      left = record {
        room = omega (arith, longer, may.left.room);
        free = λ slot low high. may.left.free slot (omega (arith, longer, low)) (omega (arith, longer, high));
      };
      nothing_to_do = λ i runs_on.
          let running : runs (node_at s.nodes i) ≡ true = sym (still_runs 1 s i) ∙ runs_on in
          subst (λ (node : NodeState). HasNothingToDo node) (sym (still_is 1 s i running)) (may.nothing_to_do i running);
      nothing = λ n i below runs_on.
          let running : runs (node_at s.nodes i) ≡ true = sym (still_runs 1 s i) ∙ runs_on in
          let later : after_rest (n + 1) (after_rest 1 s) ≡ after_rest (n + 1 + 1) s =
          after_rest_more (n + 1) s ∙ ap (λ m. after_rest m s) (sym (add-one (n + 1))) in
          ap (λ (node : NodeState). does node i (after_rest (n + 1) (after_rest 1 s))) (still_is 1 s i running)
          ∙ ap (λ t. does (node_at s.nodes i) i t) later
          ∙ may.nothing (n + 1) i (omega arith) running;
    }
  where
    does : NodeState → ℕ → RunState → List Effect
    does node i t = effects_for node.present.number scenario node.present i (history i t)

-- ---- all rounds

-- round robin goes on with these steps, each is done, and they lead to the state after the rest
record Rests (scenario : ScenarioParts) (s : RunState) (slots : ℕ) : Type 0 where
  steps : rounds scenario slots s ≡ idle_rounds slots s.nodes
  leads : LeadsTo scenario s (rounds scenario slots s) (after_rest slots s)

rests : (scenario : ScenarioParts) (slots : ℕ) (s : RunState) → IsOrderly scenario.params.nodes s → MayRest scenario s slots → Rests scenario s slots
unfolding rounds idle_rounds
rests scenario zero s o may = record { steps = refl; leads = leads_nowhere scenario s (after_rest 0 s) o (sym (after_rest_none s)) }
rests scenario (suc slots) s o may =
    let idle : IsIdleNext scenario s = idle_next scenario s slots may in
    let is : round scenario s ≡ idle_round s.nodes = round-is scenario s idle in
    let first : LeadsTo scenario s (round scenario s) (after_rest 1 s) =
    subst (λ journal. LeadsTo scenario s journal (after_rest 1 s)) (sym is)
    (idle_round_leads scenario s o idle (λ i running. may.nothing 0 i (omega arith) running)) in
    let later : Rests scenario (after_rest 1 s) slots = rests scenario slots (after_rest 1 s) first.orderly (rest_goes_on scenario s slots may) in
    let then : rounds scenario slots (run_from scenario s (round scenario s)) ≡ rounds scenario slots (after_rest 1 s) =
    ap (rounds scenario slots) first.to in
    record {
      steps = λ k. is k ++ (then ∙ later.steps ∙ same_idle_rounds slots s) k;
      leads = subst (λ journal. LeadsTo scenario s (round scenario s ++ journal) (after_rest (suc slots) s)) (sym then)
          (leads_then scenario s (after_rest 1 s) (after_rest (suc slots) s) (round scenario s) (rounds scenario slots (after_rest 1 s)) first
          (subst (LeadsTo scenario (after_rest 1 s) (rounds scenario slots (after_rest 1 s))) (after_rest_more slots s) later.leads));
    }

-- ---- rounds in two parts

pub rounds_split : (scenario : ScenarioParts) (first rest : ℕ) (s : RunState)
    → rounds scenario (first + rest) s ≡ rounds scenario first s ++ rounds scenario rest (run_from scenario s (rounds scenario first s))
unfolding rounds run_from
rounds_split scenario zero rest s = let e : 0 + rest ≡ rest = omega arith in ap (λ n. rounds scenario n s) e
rounds_split scenario (suc first) rest s =
    let t : RunState = run_from scenario s (round scenario s) in
    let e : suc first + rest ≡ suc (first + rest) = omega arith in
    ap (λ n. rounds scenario n s) e
    ∙ ap (λ journal. round scenario s ++ journal) (rounds_split scenario first rest t)
    ∙ sym (append_assoc (round scenario s) (rounds scenario first t) (rounds scenario rest (run_from scenario t (rounds scenario first t))))
    ∙ ap (λ u. (round scenario s ++ rounds scenario first t) ++ rounds scenario rest u) (sym (run_then scenario s (round scenario s) (rounds scenario first t)))

idle_rounds_split : (first rest : ℕ) (nodes : List NodeState) → idle_rounds (first + rest) nodes ≡ idle_rounds first nodes ++ idle_rounds rest nodes
unfolding idle_rounds
idle_rounds_split zero rest nodes = let e : 0 + rest ≡ rest = omega arith in ap (λ n. idle_rounds n nodes) e
idle_rounds_split (suc first) rest nodes =
    let e : suc first + rest ≡ suc (first + rest) = omega arith in
    ap (λ n. idle_rounds n nodes) e ∙ ap (λ steps. idle_round nodes ++ steps) (idle_rounds_split first rest nodes)
    ∙ sym (append_assoc (idle_round nodes) (idle_rounds first nodes) (idle_rounds rest nodes))

-- ---- a stretch: slots in which no node has anything to do, and one more

-- one round
rounds_one : (scenario : ScenarioParts) (s : RunState) → rounds scenario 1 s ≡ round scenario s
unfolding rounds
rounds_one scenario s = append-nil (round scenario s)

idle_rounds_one : (nodes : List NodeState) → idle_rounds 1 nodes ≡ idle_round nodes
unfolding idle_rounds
idle_rounds_one nodes = append-nil (idle_round nodes)

same_idle_round_after : (slots : ℕ) (s : RunState) → idle_round (after_rest slots s).nodes ≡ idle_round s.nodes
same_idle_round_after slots s =
    let tests : (λ i. runs (node_at (after_rest slots s).nodes i)) ≡ (λ i. runs (node_at s.nodes i)) = λ k i. (still_runs slots s i) k in
    λ k. Slot ∷ map (λ i. Turn i) (filter (tests k) (range_with_len 0 ((length-map s.nodes (rested slots)) k)))

module _ (scenario : ScenarioParts) (journal : List Step) (slots : ℕ) (may : MayRest scenario (run scenario journal) slots)
    (next : IsIdleNext scenario (after_rest slots (run scenario journal))) where
  abbrev was : RunState
  was = run scenario journal

  -- the state before the last slot
  abbrev then : RunState
  then = after_rest slots was

  o : IsOrderly scenario.params.nodes was
  o = orderly scenario journal

  first : Rests scenario was slots
  first = rests scenario slots was o may

  last : RoundLeads scenario then
  last = round_leads scenario then first.leads.orderly next

  steps_then : rounds scenario (slots + 1) was ≡ rounds scenario slots was ++ round scenario then
  steps_then =
      rounds_split scenario slots 1 was
      ∙ ap (λ (t : RunState). rounds scenario slots was ++ rounds scenario 1 t) first.leads.to
      ∙ ap (λ (steps : List Step). rounds scenario slots was ++ steps) (rounds_one scenario then)

  -- the round robin journal goes on with these steps
  pub stretch_steps : rounds scenario (slots + 1) was ≡ idle_rounds (slots + 1) was.nodes
  stretch_steps =
      steps_then ∙ (λ k. first.steps k ++ (round-is scenario then next ∙ same_idle_round_after slots was ∙ sym (idle_rounds_one was.nodes)) k)
      ∙ sym (idle_rounds_split slots 1 was.nodes)

  stretch_leads : LeadsTo scenario was (rounds scenario (slots + 1) was) last.end
  stretch_leads =
      subst (λ (steps : List Step). LeadsTo scenario was steps last.end) (sym steps_then)
      (leads_then scenario was then last.end (rounds scenario slots was) (round scenario then) first.leads
      (subst (λ (steps : List Step). LeadsTo scenario then steps last.end) (sym (round-is scenario then next)) last.leads))

  -- each is done
  pub stretch_legal : IsLegal scenario journal → IsLegal scenario (journal ++ rounds scenario (slots + 1) was)
  stretch_legal legal = legal_then scenario (opening scenario.params.nodes) journal (rounds scenario (slots + 1) was) legal stretch_leads.legal

  -- and they lead to the state after the last round
  pub stretch_run : IsAfterRound scenario then (run scenario (journal ++ rounds scenario (slots + 1) was))
  stretch_run =
      subst (λ (t : RunState). IsAfterRound scenario then t)
      (sym (run_then scenario (opening scenario.params.nodes) journal (rounds scenario (slots + 1) was) ∙ stretch_leads.to)) last.after

  pub stretch_ran : slots_run (run scenario (journal ++ rounds scenario (slots + 1) was)) ≡ slots_run was + (slots + 1)
  stretch_ran =
      omega (arith, ap (λ (t : List SlotNote). length t) stretch_run.trace, length-idle_trace 1 then.trace, length-idle_trace slots was.trace)

  -- the journal up to the last slot, and with it
  abbrev pub before_slot : List Step
  before_slot = journal ++ rounds scenario slots was

  abbrev pub with_slot : List Step
  with_slot = journal ++ (rounds scenario slots was ++ Slot ∷ [])

  pub before_slot_run : run scenario before_slot ≡ then
  before_slot_run = run_then scenario (opening scenario.params.nodes) journal (rounds scenario slots was) ∙ first.leads.to

  pub with_slot_run : run scenario with_slot ≡ proceed scenario then Slot
  with_slot_run =
      run_then scenario (opening scenario.params.nodes) journal (rounds scenario slots was ++ Slot ∷ [])
      ∙ (leads_then scenario was then (proceed scenario then Slot) (rounds scenario slots was) (Slot ∷ []) first.leads
      (slot_leads scenario then first.leads.orderly next)).to
