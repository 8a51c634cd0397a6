-- Journals in parts, legal journals, and how long a legal journal can be.
use Rattle.std.specs.Prelude.{◌≡◌, ℕ, zero, suc, ◌+◌, ◌-◌, ◌*◌, ◌<◌, ◌≤◌, ◌≢◌, true, false, List, [], ◌∷◌, ◌++◌, length, refl}
use Rattle.std.proofs.Common.{sym, ap, ◌∙◌, subst, inl, inr, arith}
use Rattle.std.proofs.Math.Nat.{mul-le-mul_left}
use Rattle.std.proofs.lemmas.Bool.{cases_eq, and_parts, and_from}
use Rattle.cany_base.specs.declared.step.Step.{Step}
use Rattle.cany_base.specs.declared.step.Step.TheVariants.{Slot, Turn}
use Rattle.cany_base.specs.Scenario.{ScenarioParts}
use Rattle.cany_model.specs.Bus.Restart.{after_restarts}
use Rattle.cany_model.specs.Runs.Run.{reply, is_done, proceed, after_step, after_turn, run_from, run, is_legal_from, IsLegal}
use Rattle.cany_model.specs.Bus.Slot.{FaultScript, script, after_slot, slot_note_of}
use Rattle.cany_model.specs.Bus.State.{NodeState, RunState, opening, node_at, runs, reads}
use Rattle.cany_model.proofs.Bus.Restarts.{after_restarts-trace, restarts_or_stays}
use Rattle.cany_model.proofs.Runs.Runs.{IsKept, IsOrderly, along_run, orderly_opening, orderly_restarts, orderly_slot, orderly_turn, turn_done}
use Rattle.cany_model.proofs.Runs.Steps.{MayTurn, after_slot-trace, after_slot-unread, after_turn-trace, after_turn-node, after_turn-other, running_before_slot, after_turn-runs}
use Rattle.cany_model.proofs.Bus.States.{runs_within}

-- ---- a journal in two parts

pub run_none : (scenario : ScenarioParts) (s : RunState) → run_from scenario s [] ≡ s
unfolding run_from
run_none scenario s = refl

pub run_then : (scenario : ScenarioParts) (s : RunState) (first rest : List Step)
    → run_from scenario s (first ++ rest) ≡ run_from scenario (run_from scenario s first) rest
unfolding run_from
run_then scenario s [] rest = refl
run_then scenario s (step ∷ first) rest = run_then scenario (after_step scenario s step) first rest

pub run_push : (scenario : ScenarioParts) (s : RunState) (journal : List Step) (step : Step)
    → run_from scenario s (journal ++ step ∷ []) ≡ after_step scenario (run_from scenario s journal) step
unfolding run_from
run_push scenario s [] step = refl
run_push scenario s (first ∷ journal) step = run_push scenario (after_step scenario s first) journal step

pub step_is : (scenario : ScenarioParts) (s : RunState) (step : Step) → is_done (reply scenario s step) ≡ true → after_step scenario s step ≡ proceed scenario s step
unfolding after_step
step_is scenario s step done = rw done refl

pub step_refused : (scenario : ScenarioParts) (s : RunState) (step : Step) → is_done (reply scenario s step) ≡ false → after_step scenario s step ≡ s
unfolding after_step
step_refused scenario s step refused = rw refused refl

-- the step of a slot: the slot, and the restarts at its end

pub slot_step-trace : (scenario : ScenarioParts) (s : RunState) → (proceed scenario s Slot).trace ≡ slot_note_of (script scenario.rules) s ∷ s.trace
unfolding proceed
slot_step-trace scenario s = after_restarts-trace scenario (after_slot (script scenario.rules) s) ∙ after_slot-trace (script scenario.rules) s

pub orderly_slot_step : (scenario : ScenarioParts) (s : RunState) → IsOrderly scenario.params.nodes s → IsOrderly scenario.params.nodes (proceed scenario s Slot)
unfolding proceed
orderly_slot_step scenario s o =
    orderly_restarts scenario.params.nodes scenario (after_slot (script scenario.rules) s)
    (orderly_slot scenario.params.nodes (script scenario.rules) s o)

-- ---- legal journals

pub legal_none : (scenario : ScenarioParts) (s : RunState) → is_legal_from scenario s [] ≡ true
unfolding is_legal_from
legal_none scenario s = refl

pub legal_then : (scenario : ScenarioParts) (s : RunState) (first rest : List Step) → is_legal_from scenario s first ≡ true
    → is_legal_from scenario (run_from scenario s first) rest ≡ true → is_legal_from scenario s (first ++ rest) ≡ true
unfolding is_legal_from run_from
legal_then scenario s [] rest p q = q
legal_then scenario s (step ∷ first) rest p q =
    let parts = and_parts (is_done (reply scenario s step)) (is_legal_from scenario (after_step scenario s step) first) p in
    and_from (is_done (reply scenario s step)) (is_legal_from scenario (after_step scenario s step) (first ++ rest)) parts.0
    (legal_then scenario (after_step scenario s step) first rest parts.1 q)

pub legal_push : (scenario : ScenarioParts) (journal : List Step) (step : Step) → IsLegal scenario journal
    → is_done (reply scenario (run scenario journal) step) ≡ true → IsLegal scenario (journal ++ step ∷ [])
unfolding is_legal_from
legal_push scenario journal step legal done =
    legal_then scenario (opening scenario.params.nodes) journal (step ∷ []) legal (and_from (is_done (reply scenario (run scenario journal) step)) true done refl)

-- the first part of a legal journal is legal
pub legal_first : (scenario : ScenarioParts) (s : RunState) (first rest : List Step) → is_legal_from scenario s (first ++ rest) ≡ true
    → is_legal_from scenario s first ≡ true
unfolding is_legal_from
legal_first scenario s [] rest p = refl
legal_first scenario s (step ∷ first) rest p =
    let parts = and_parts (is_done (reply scenario s step)) (is_legal_from scenario (after_step scenario s step) (first ++ rest)) p in
    and_from (is_done (reply scenario s step)) (is_legal_from scenario (after_step scenario s step) first) parts.0
    (legal_first scenario (after_step scenario s step) first rest parts.1)

-- and each step of it is done when it comes
pub legal_next : (scenario : ScenarioParts) (s : RunState) (first : List Step) (step : Step) (rest : List Step) → is_legal_from scenario s (first ++ step ∷ rest) ≡ true
    → is_done (reply scenario (run_from scenario s first) step) ≡ true
unfolding is_legal_from run_from
legal_next scenario s [] step rest p = (and_parts (is_done (reply scenario s step)) (is_legal_from scenario (after_step scenario s step) rest) p).0
legal_next scenario s (head ∷ first) step rest p =
    legal_next scenario (after_step scenario s head) first step rest
    (and_parts (is_done (reply scenario s head)) (is_legal_from scenario (after_step scenario s head) (first ++ step ∷ rest)) p).1

-- ---- bounds

pub trace_short : (scenario : ScenarioParts) (journal : List Step) → length (run scenario journal).trace ≤ scenario.params.slots
trace_short scenario journal =
    along_run scenario (λ s. length s.trace ≤ scenario.params.slots) (omega arith)
    (record {
      slot = λ s o may h. subst (λ trace. length trace ≤ scenario.params.slots) (sym (after_slot-trace (script scenario.rules) s)) (omega (arith, may.room));
      restarts = λ s o some h. subst (λ trace. length trace ≤ scenario.params.slots) (sym (after_restarts-trace scenario s)) h;
      turn = λ s i o may h. subst (λ trace. length trace ≤ scenario.params.slots) (sym (after_turn-trace scenario i s)) h;
    })
    journal

-- how many notices the nodes below n have read
unfoldable pub reads_below : RunState → ℕ → ℕ
reads_below s zero = 0
reads_below s (suc n) = reads s n + reads_below s n

pub reads_slot : (nodes : ℕ) (rules : FaultScript) (s : RunState) → IsOrderly nodes s → (i : ℕ) → i < nodes → reads (after_slot rules s) i ≡ reads s i
reads_slot nodes rules s o i within =
    let longer : length (after_slot rules s).trace ≡ suc (length s.trace) = ap length (after_slot-trace rules s) in
    let more : (node_at (after_slot rules s).nodes i).unread ≡ (node_at s.nodes i).unread + 1 = after_slot-unread rules s i (omega (arith, o.count)) in
    omega (arith, longer, more)

below_slot : (nodes : ℕ) (rules : FaultScript) (s : RunState) → IsOrderly nodes s → (n : ℕ) → n ≤ nodes → reads_below (after_slot rules s) n ≡ reads_below s n
unfolding reads_below
below_slot nodes rules s o zero h = refl
below_slot nodes rules s o (suc n) h =
    omega (arith, reads_slot nodes rules s o n (omega arith), below_slot nodes rules s o n (omega arith))

-- a node that starts again has only later slots to read, and every other node has read as many as
-- before
pub reads_restarts : (scenario : ScenarioParts) (s : RunState) (i : ℕ) → reads s i ≤ reads (after_restarts scenario s) i
reads_restarts scenario s i =
    let same : length (after_restarts scenario s).trace ≡ length s.trace = ap length (after_restarts-trace scenario s) in
    elim (restarts_or_stays scenario s i) [
      | inl new ↦
          let none : (node_at (after_restarts scenario s).nodes i).unread ≡ 0 = ap (λ (node : NodeState). node.unread) new.is in
          omega (arith, same, none)
      | inr still ↦ omega (arith, same, ap (λ (node : NodeState). node.unread) still)
    ]

below_restarts : (scenario : ScenarioParts) (s : RunState) (n : ℕ) → reads_below s n ≤ reads_below (after_restarts scenario s) n
unfolding reads_below
below_restarts scenario s zero = omega arith
below_restarts scenario s (suc n) = omega (arith, reads_restarts scenario s n, below_restarts scenario s n)

below_slot_step : (scenario : ScenarioParts) (s : RunState) → IsOrderly scenario.params.nodes s
    → reads_below s scenario.params.nodes ≤ reads_below (proceed scenario s Slot) scenario.params.nodes
unfolding proceed
below_slot_step scenario s o =
    omega (
      arith,
      below_slot scenario.params.nodes (script scenario.rules) s o scenario.params.nodes (omega arith),
      below_restarts scenario (after_slot (script scenario.rules) s) scenario.params.nodes,
    )

pub reads_turn : (scenario : ScenarioParts) (i : ℕ) (s : RunState) → IsOrderly scenario.params.nodes s → MayTurn s i → reads (after_turn scenario i s) i ≡ reads s i + 1
reads_turn scenario i s o may =
    let same : length (after_turn scenario i s).trace ≡ length s.trace = ap length (after_turn-trace scenario i s) in
    let fewer : (node_at (after_turn scenario i s).nodes i).unread ≡ (node_at s.nodes i).unread - 1 = ap (λ (node : NodeState). node.unread) (after_turn-node scenario i s may (o.unread i)) in
    omega (arith, same, fewer, may.unread, o.unread i)

pub reads_other : (scenario : ScenarioParts) (i : ℕ) (s : RunState) (j : ℕ) → j ≢ i → reads (after_turn scenario i s) j ≡ reads s j
reads_other scenario i s j other =
    let same : length (after_turn scenario i s).trace ≡ length s.trace = ap length (after_turn-trace scenario i s) in
    let still : (node_at (after_turn scenario i s).nodes j).unread ≡ (node_at s.nodes j).unread = ap (λ (node : NodeState). node.unread) (after_turn-other scenario i s j other) in
    omega (arith, same, still)

below_turn_before : (scenario : ScenarioParts) (i : ℕ) (s : RunState) → IsOrderly scenario.params.nodes s → MayTurn s i → (n : ℕ) → n ≤ i
    → reads_below (after_turn scenario i s) n ≡ reads_below s n
unfolding reads_below
below_turn_before scenario i s o may zero h = refl
below_turn_before scenario i s o may (suc n) h =
    let other : n ≢ i = λ e. absurd (omega arith) in
    omega (arith, reads_other scenario i s n other, below_turn_before scenario i s o may n (omega arith))

below_turn : (scenario : ScenarioParts) (i : ℕ) (s : RunState) → IsOrderly scenario.params.nodes s → MayTurn s i → (n : ℕ) → i < n
    → reads_below (after_turn scenario i s) n ≡ reads_below s n + 1
unfolding reads_below
below_turn scenario i s o may zero h = absurd (omega arith)
below_turn scenario i s o may (suc n) h = elim (cases_eq n i) [
  | inl same ↦
      let here : reads (after_turn scenario i s) n ≡ reads s n + 1 = subst (λ k. reads (after_turn scenario i s) k ≡ reads s k + 1) (sym same) (reads_turn scenario i s o may) in
      omega (arith, here, below_turn_before scenario i s o may n (omega arith))
  | inr other ↦ omega (arith, reads_other scenario i s n other, below_turn scenario i s o may n (omega arith))
]

-- At most how many steps lead to a state: each step counts for at least one, since a slot makes the
-- trace longer and takes back nothing that was read, and a turn reads one notice. A restart counts
-- what the earlier incarnation left unread as read.
abbrev steps_to : ℕ → RunState → ℕ
steps_to nodes s = length s.trace + reads_below s nodes

counted_step : (scenario : ScenarioParts) (s : RunState) (step : Step) → IsOrderly scenario.params.nodes s → is_done (reply scenario s step) ≡ true
    → IsOrderly scenario.params.nodes (proceed scenario s step) × (steps_to scenario.params.nodes s + 1 ≤ steps_to scenario.params.nodes (proceed scenario s step))
unfolding proceed
counted_step scenario s Slot o done =
    let longer : length (proceed scenario s Slot).trace ≡ suc (length s.trace) = ap length (slot_step-trace scenario s) in
    (orderly_slot_step scenario s o, omega (arith, longer, below_slot_step scenario s o))
counted_step scenario s (Turn i) o done =
    let may : MayTurn s i = turn_done scenario s i o.count done in
    let same : length (after_turn scenario i s).trace ≡ length s.trace = ap length (after_turn-trace scenario i s) in (
      orderly_turn scenario.params.nodes scenario i s may o,
      omega (arith, same, below_turn scenario i s o may scenario.params.nodes (omega (arith, may.there, o.count))),
    )

counted_from : (scenario : ScenarioParts) (s : RunState) (journal : List Step) → IsOrderly scenario.params.nodes s → is_legal_from scenario s journal ≡ true
    → steps_to scenario.params.nodes s + length journal ≤ steps_to scenario.params.nodes (run_from scenario s journal)
unfolding run_from is_legal_from
counted_from scenario s [] o legal = omega arith
counted_from scenario s (step ∷ journal) o legal =
    let parts = and_parts (is_done (reply scenario s step)) (is_legal_from scenario (after_step scenario s step) journal) legal in
    let next = counted_step scenario s step o parts.0 in
    let to : proceed scenario s step ≡ after_step scenario s step = sym (step_is scenario s step parts.0) in
    let o' : IsOrderly scenario.params.nodes (after_step scenario s step) = subst (λ (t : RunState). IsOrderly scenario.params.nodes t) to next.0 in
    let one : steps_to scenario.params.nodes s + 1 ≤ steps_to scenario.params.nodes (after_step scenario s step) =
    subst (λ (t : RunState). steps_to scenario.params.nodes s + 1 ≤ steps_to scenario.params.nodes t) to next.1 in
    omega (arith, one, counted_from scenario (after_step scenario s step) journal o' parts.1)

below_few : (s : RunState) (n : ℕ) → reads_below s n ≤ n * length s.trace
unfolding reads_below
below_few s zero = omega arith
below_few s (suc n) = let fewer : reads_below s n ≤ n * length s.trace = below_few s n in omega arith

below_opening : (nodes n : ℕ) → reads_below (opening nodes) n ≡ 0
unfolding reads_below
below_opening nodes zero = refl
below_opening nodes (suc n) = omega (arith, below_opening nodes n)

-- a legal journal has at most a slot, and a turn of each node, for each slot of the run
pub legal_short : (scenario : ScenarioParts) (journal : List Step) → IsLegal scenario journal
    → length journal ≤ scenario.params.slots * (scenario.params.nodes + 1)
legal_short scenario journal legal =
    let s : RunState = run scenario journal in
    let count : steps_to scenario.params.nodes (opening scenario.params.nodes) + length journal ≤ steps_to scenario.params.nodes s =
    counted_from scenario (opening scenario.params.nodes) journal (orderly_opening scenario.params.nodes) legal in
    let few : reads_below s scenario.params.nodes ≤ scenario.params.nodes * length s.trace = below_few s scenario.params.nodes in
    let short : length s.trace ≤ scenario.params.slots = trace_short scenario journal in
    let more : scenario.params.nodes * length s.trace ≤ scenario.params.nodes * scenario.params.slots = mul-le-mul_left scenario.params.nodes short in
    omega (arith, count, few, short, more, below_opening scenario.params.nodes scenario.params.nodes)

-- a running node has at most one unread notice more than the lag
abbrev pub FewUnread : ScenarioParts → RunState → Type 0
FewUnread scenario s = (i : ℕ) → runs (node_at s.nodes i) ≡ true → (node_at s.nodes i).unread ≤ scenario.params.lag + 1

pub unread_at_first : (scenario : ScenarioParts) → FewUnread scenario (opening scenario.params.nodes)
unread_at_first scenario i running = omega (arith, (orderly_opening scenario.params.nodes).unread i)

pub unread_kept : (scenario : ScenarioParts) → IsKept scenario (FewUnread scenario)
unread_kept scenario = record {
  slot = λ s o may h i running.
      let ran = running_before_slot (script scenario.rules) s i running in
      omega (arith, after_slot-unread (script scenario.rules) s i (runs_within s.nodes i ran.0), may.lag i ran.0);
  restarts = λ s o some h i running. elim (restarts_or_stays scenario s i) [
    | inl new ↦ omega (arith, ap (λ (node : NodeState). node.unread) new.is)
    | inr same ↦
        let ran : runs (node_at s.nodes i) ≡ true = ap (λ (node : NodeState). runs node) (sym same) ∙ running in
        omega (arith, ap (λ (node : NodeState). node.unread) same, h i ran)
  ];
  turn = λ s i o may h j running.
      let ran : runs (node_at s.nodes j) ≡ true = sym (after_turn-runs scenario i s j may (o.unread i)) ∙ running in
      elim (cases_eq j i) [
        | inl same ↦ subst (λ k. (node_at (after_turn scenario i s).nodes k).unread ≤ scenario.params.lag + 1) (sym same)
            (omega (arith, ap (λ (node : NodeState). node.unread) (after_turn-node scenario i s may (o.unread i)), h i may.running))
        | inr other ↦ omega (arith, ap (λ (node : NodeState). node.unread) (after_turn-other scenario i s j other), h j ran)
      ];
}

pub unread_within : (scenario : ScenarioParts) (journal : List Step) (i : ℕ) → runs (node_at (run scenario journal).nodes i) ≡ true
    → (node_at (run scenario journal).nodes i).unread ≤ scenario.params.lag + 1
unread_within scenario journal = along_run scenario (FewUnread scenario) (unread_at_first scenario) (unread_kept scenario) journal
