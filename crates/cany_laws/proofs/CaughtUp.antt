-- A node makes turns until it has read all that there is.
use Rattle.std.proofs.Common.{◌≡◌, ℕ, zero, suc, inl, inr, true, List, [], ◌∷◌, ◌++◌, ap, sym, ◌∙◌, subst, arith, append-nil, append_assoc}
use Rattle.std.proofs.lemmas.Bool.{cases_eq}
use Rattle.cany_base.specs.declared.step.Step.{Step}
use Rattle.cany_base.specs.declared.step.Step.TheVariants as step
use Rattle.cany_base.specs.Scenario.{ScenarioParts}
use Rattle.cany_model.specs.Bus.History.{history}
use Rattle.cany_model.specs.Bus.State.{NodeState, RunState, node_at, runs}
use Rattle.cany_model.specs.Runs.Run.{after_turn, run}
use Rattle.cany_model.proofs.Bus.States.{runs_within}
use Rattle.cany_model.proofs.Runs.Runs.{orderly}
use Rattle.cany_model.proofs.Runs.Steps.{MayTurn, after_turn-node, after_turn-other, after_turn-present, after_turn-runs, after_turn-trace, next_notice, node_after_turn}
use Rattle.cany_laws.proofs.KeptAlongJournal.{after_turn-ended, turn_made}

-- some turns of node j more, after which it has read all; and the other nodes are as they were
pub record CaughtUp (scenario : ScenarioParts) (journal : List Step) (j : ℕ) : Type 0 where
  pub turns : List Step
  pub trace : (run scenario (journal ++ turns)).trace ≡ (run scenario journal).trace
  pub unread : (node_at (run scenario (journal ++ turns)).nodes j).unread ≡ 0
  pub present : (node_at (run scenario (journal ++ turns)).nodes j).present ≡ (node_at (run scenario journal).nodes j).present
  pub running : runs (node_at (run scenario (journal ++ turns)).nodes j) ≡ true
  pub ended : (i : ℕ) → (node_at (run scenario (journal ++ turns)).nodes i).ended ≡ (node_at (run scenario journal).nodes i).ended
  pub other : (i : ℕ) → (i ≡ j → ⊥) → node_at (run scenario (journal ++ turns)).nodes i ≡ node_at (run scenario journal).nodes i

pub caught_up : (scenario : ScenarioParts) (j n : ℕ) (journal : List Step) → runs (node_at (run scenario journal).nodes j) ≡ true
    → (node_at (run scenario journal).nodes j).unread ≡ n → CaughtUp scenario journal j
caught_up scenario j zero journal running unread = record {
  turns = [];
  trace = ap (λ x. (run scenario x).trace) (append-nil journal);
  unread = ap (λ x. (node_at (run scenario x).nodes j).unread) (append-nil journal) ∙ unread;
  present = ap (λ x. (node_at (run scenario x).nodes j).present) (append-nil journal);
  running = ap (λ x. runs (node_at (run scenario x).nodes j)) (append-nil journal) ∙ running;
  ended = λ i. ap (λ x. (node_at (run scenario x).nodes i).ended) (append-nil journal);
  other = λ i _. ap (λ x. node_at (run scenario x).nodes i) (append-nil journal);
}
caught_up scenario j (suc n) journal running unread =
    let s : RunState = run scenario journal in
    let o = orderly scenario journal in
    let may : MayTurn s j = record { there = runs_within s.nodes j running; running = running; unread = omega (arith, unread) } in
    let next : List Step = journal ++ step.Turn j ∷ [] in
    let is : run scenario next ≡ after_turn scenario j s = turn_made scenario journal j may in
    let node : node_at (after_turn scenario j s).nodes j ≡ node_after_turn scenario j (next_notice s j ∷ history j s) (node_at s.nodes j) =
    after_turn-node scenario j s may (o.unread j) in
    let one : (node_at (run scenario next).nodes j).unread ≡ n =
    ap (λ (r : RunState). (node_at r.nodes j).unread) is ∙ ap (λ (m : NodeState). m.unread) node ∙ omega (arith, unread) in
    let runs_on : runs (node_at (run scenario next).nodes j) ≡ true =
    ap (λ (r : RunState). runs (node_at r.nodes j)) is ∙ after_turn-runs scenario j s j may (o.unread j) ∙ running in
    let rest = caught_up scenario j n next runs_on one in
    let whole : journal ++ (step.Turn j ∷ rest.turns) ≡ next ++ rest.turns = sym (append_assoc journal (step.Turn j ∷ []) rest.turns) in
    record {
      turns = step.Turn j ∷ rest.turns;
      trace = ap (λ x. (run scenario x).trace) whole ∙ rest.trace ∙ ap (λ (r : RunState). r.trace) is ∙ after_turn-trace scenario j s;
      unread = ap (λ x. (node_at (run scenario x).nodes j).unread) whole ∙ rest.unread;
      present = ap (λ x. (node_at (run scenario x).nodes j).present) whole ∙ rest.present ∙ ap (λ (r : RunState). (node_at r.nodes j).present) is
          ∙ after_turn-present scenario j s j may (o.unread j);
      running = ap (λ x. runs (node_at (run scenario x).nodes j)) whole ∙ rest.running;
      ended = λ i. ap (λ x. (node_at (run scenario x).nodes i).ended) whole ∙ rest.ended i ∙ ap (λ (r : RunState). (node_at r.nodes i).ended) is
          ∙ after_turn-ended scenario j s i may (o.unread j);
      other = λ i apart. ap (λ x. node_at (run scenario x).nodes i) whole ∙ rest.other i apart ∙ ap (λ (r : RunState). node_at r.nodes i) is
          ∙ after_turn-other scenario j s i apart;
    }

-- ---- what that leaves of a node

module _ (scenario : ScenarioParts) (journal : List Step) (j : ℕ) (up : CaughtUp scenario journal j) (i : ℕ) where
  -- every node is in the incarnation in which it was
  pub still_present : (node_at (run scenario (journal ++ up.turns)).nodes i).present ≡ (node_at (run scenario journal).nodes i).present
  still_present = elim (cases_eq i j) [
    | inl same ↦ subst (λ k. (node_at (run scenario (journal ++ up.turns)).nodes k).present ≡ (node_at (run scenario journal).nodes k).present) (sym same) up.present
    | inr apart ↦ ap (λ (n : NodeState). n.present) (up.other i apart)
  ]

  -- and runs where it ran
  pub still_runs : runs (node_at (run scenario journal).nodes i) ≡ true → runs (node_at (run scenario (journal ++ up.turns)).nodes i) ≡ true
  still_runs ran = elim (cases_eq i j) [
    | inl same ↦ subst (λ k. runs (node_at (run scenario (journal ++ up.turns)).nodes k) ≡ true) (sym same) up.running
    | inr apart ↦ ap (λ (n : NodeState). runs n) (up.other i apart) ∙ ran
  ]

  -- and one that had read all that there is has read it still
  pub still_read : (node_at (run scenario journal).nodes i).unread ≡ 0 → (node_at (run scenario (journal ++ up.turns)).nodes i).unread ≡ 0
  still_read read = elim (cases_eq i j) [
    | inl same ↦ subst (λ k. (node_at (run scenario (journal ++ up.turns)).nodes k).unread ≡ 0) (sym same) up.unread
    | inr apart ↦ ap (λ (n : NodeState). n.unread) (up.other i apart) ∙ read
  ]
