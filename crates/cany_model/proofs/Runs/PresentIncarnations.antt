-- What holds of the incarnation of the opening, and of each that begins, holds of the present one
-- of each node of every run.
use Rattle.std.proofs.Common.{ℕ, ◌≤◌, inl, inr, List, length, sym, subst}
use Rattle.std.proofs.lemmas.Bool.{cases_lt}
use Rattle.std.proofs.lemmas.List.{length-replicate}
use Rattle.cany_base.specs.declared.step.Step.{Step}
use Rattle.cany_base.specs.Scenario.{ScenarioParts}
use Rattle.cany_model.specs.Bus.Restart.{next_incarnation}
use Rattle.cany_model.specs.Bus.Slot.{after_slot, script}
use Rattle.cany_model.specs.Bus.State.{Incarnation, NodeState, RunState, fresh, node_at, opening, original}
use Rattle.cany_model.specs.Runs.Run.{run}
use Rattle.cany_model.proofs.Bus.Restarts.{restarts_or_stays}
use Rattle.cany_model.proofs.Bus.States.{node_at-opening, node_at_past}
use Rattle.cany_model.proofs.Runs.Runs.{along_run}
use Rattle.cany_model.proofs.Runs.Steps.{after_slot-length, after_slot-present, after_turn-present}

pub each_present : (scenario : ScenarioParts) (P : Incarnation → Type 0) → P original
    → ((slot : ℕ) (inc : Incarnation) → P (next_incarnation scenario.params slot inc)) → (journal : List Step) (i : ℕ)
    → P (node_at (run scenario journal).nodes i).present
each_present scenario P first next =
    along_run scenario (λ s. (i : ℕ) → P (node_at s.nodes i).present) (λ i. elim (cases_lt i scenario.params.nodes) [
      | inl below ↦ subst (λ (node : NodeState). P node.present) (sym (node_at-opening scenario.params.nodes i below)) first
      | inr past ↦ of_absent (opening scenario.params.nodes) i (subst (λ n. n ≤ i) (sym (length-replicate scenario.params.nodes fresh)) past)
    ])
    (record {
      slot = λ s o may all i. elim (cases_lt i (length s.nodes)) [
        | inl below ↦ subst P (sym (after_slot-present (script scenario.rules) s i below)) (all i)
        | inr past ↦ of_absent (after_slot (script scenario.rules) s) i (subst (λ n. n ≤ i) (sym (after_slot-length (script scenario.rules) s)) past)
      ];
      restarts = λ s o some all i. elim (restarts_or_stays scenario s i) [
        | inl new ↦ subst (λ (node : NodeState). P node.present) (sym new.is) (next _ (node_at s.nodes i).present)
        | inr same ↦ subst (λ (node : NodeState). P node.present) (sym same) (all i)
      ];
      turn = λ s i o may all j. subst P (sym (after_turn-present scenario i s j may (o.unread i))) (all j);
    })
  where
    of_absent : (s : RunState) (i : ℕ) → length s.nodes ≤ i → P (node_at s.nodes i).present
    of_absent s i past = subst (λ (node : NodeState). P node.present) (sym (node_at_past s.nodes i past)) first
