-- What the restarts at the end of a slot change and what they leave.
use Rattle.std.proofs.Common.{◌≡◌, ℕ, zero, suc, ◌+◌, ◌-◌, ◌<◌, ◌≤◌, ◌&&◌, ◌⊎◌, inl, inr, Bool, true, false, not, if◌then◌else◌, List, [], ◌∷◌, length, refl, ap, sym, ◌∙◌, arith, add-zero}
use Rattle.std.specs.Prelude.{slice_index_or}
use Rattle.std.proofs.lemmas.Bool.{and_parts, cases_Bool, cases_lt, not-true}
use Rattle.cany_base.specs.Scenario.{ScenarioParts}
use Rattle.cany_model.specs.Bus.Restart.{after_entries, after_restarts, names_restart, nodes_after_entries, restarted}
use Rattle.cany_model.specs.Bus.State.{NodeState, RunState, absent, node_at, runs, slots_run}
use Rattle.cany_model.proofs.Bus.States.{node_at_past}

pub after_restarts-trace : (scenario : ScenarioParts) (s : RunState) → (after_restarts scenario s).trace ≡ s.trace
unfolding after_restarts
after_restarts-trace scenario s = refl

length-entries : (scenario : ScenarioParts) (slot k : ℕ) (nodes : List NodeState) → length (nodes_after_entries scenario slot k nodes) ≡ length nodes
unfolding nodes_after_entries
length-entries scenario slot k [] = refl
length-entries scenario slot k (node ∷ nodes) = ap suc (length-entries scenario slot (k + 1) nodes)

pub after_restarts-length : (scenario : ScenarioParts) (s : RunState) → length (after_restarts scenario s).nodes ≡ length s.nodes
unfolding after_restarts
after_restarts-length scenario s = length-entries scenario (slots_run s - 1) 0 s.nodes

node_at-entries : (scenario : ScenarioParts) (slot k : ℕ) (nodes : List NodeState) (i : ℕ) → i < length nodes
    → node_at (nodes_after_entries scenario slot k nodes) i ≡ after_entries scenario slot (k + i) (node_at nodes i)
unfolding nodes_after_entries node_at
node_at-entries scenario slot k [] i h = absurd (omega arith)
node_at-entries scenario slot k (node ∷ nodes) zero h = ap (λ n. after_entries scenario slot n node) (sym (add-zero k))
node_at-entries scenario slot k (node ∷ nodes) (suc i) h =
    let e : k + 1 + i ≡ k + suc i = omega arith in
    node_at-entries scenario slot (k + 1) nodes i (omega arith) ∙ ap (λ n. after_entries scenario slot n (slice_index_or nodes i absent)) e

pub after_restarts-node : (scenario : ScenarioParts) (s : RunState) (i : ℕ) → i < length s.nodes
    → node_at (after_restarts scenario s).nodes i ≡ after_entries scenario (slots_run s - 1) i (node_at s.nodes i)
unfolding after_restarts
after_restarts-node scenario s i h =
    let e : 0 + i ≡ i = omega arith in
    node_at-entries scenario (slots_run s - 1) 0 s.nodes i h
    ∙ ap (λ n. after_entries scenario (slots_run s - 1) n (node_at s.nodes i)) e

-- a node that starts again
pub record Restarts (scenario : ScenarioParts) (s : RunState) (i : ℕ) : Type 0 where
  pub below : i < length s.nodes
  pub stopped : runs (node_at s.nodes i) ≡ false
  pub named : names_restart scenario.restarts (slots_run s - 1) i ≡ true
  pub is : node_at (after_restarts scenario s).nodes i ≡ restarted scenario.params (slots_run s - 1) (node_at s.nodes i)

-- each node starts again, or stays as it is
pub restarts_or_stays : (scenario : ScenarioParts) (s : RunState) (i : ℕ)
    → Restarts scenario s i ⊎ (node_at (after_restarts scenario s).nodes i ≡ node_at s.nodes i)
unfolding after_entries
restarts_or_stays scenario s i = elim (cases_lt i (length s.nodes)) [
  | inl below ↦ elim (cases_Bool (not (runs node) && names_restart scenario.restarts slot i)) [
    | inl begins ↦
        let parts = and_parts (not (runs node)) (names_restart scenario.restarts slot i) begins in
        inl (record {
          below = below;
          stopped = not-true (runs node) parts.0;
          named = parts.1;
          is = after_restarts-node scenario s i below ∙ by_test begins;
        })
    | inr stays ↦ inr (after_restarts-node scenario s i below ∙ by_test stays)
  ]
  | inr past ↦
      let past' : length (after_restarts scenario s).nodes ≤ i = omega (arith, past, after_restarts-length scenario s) in
      inr (node_at_past (after_restarts scenario s).nodes i past' ∙ sym (node_at_past s.nodes i past))
]
  where
    slot : ℕ
    slot = slots_run s - 1

    node : NodeState
    node = node_at s.nodes i

    by_test : {b : Bool} → (not (runs node) && names_restart scenario.restarts slot i) ≡ b
        → after_entries scenario slot i node ≡ (if b then restarted scenario.params slot node else node)
    by_test e = rw e refl

-- a node that runs stays as it is
pub running_stays : (scenario : ScenarioParts) (s : RunState) (i : ℕ) → runs (node_at s.nodes i) ≡ true
    → node_at (after_restarts scenario s).nodes i ≡ node_at s.nodes i
unfolding after_entries
running_stays scenario s i running = elim (restarts_or_stays scenario s i) [
  | inl new ↦ absurd (both (runs (node_at s.nodes i)) new.stopped running)
  | inr same ↦ same
]
  where
    both : (b : Bool) → b ≡ false → b ≡ true → ⊥
    both true h k = cc
    both false h k = cc
