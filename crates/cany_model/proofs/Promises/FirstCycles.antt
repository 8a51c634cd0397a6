-- The first membership cycle of a restarted node is the first that does not start before its first
-- slot.
use Rattle.std.proofs.Common.{◌≡◌, ℕ, ◌<◌, ◌≤◌, inl, inr, List, length, refl, sym, subst, arith}
use Rattle.std.proofs.lemmas.Bool.{cases_lt}
use Rattle.std.proofs.lemmas.List.{length-replicate}
use Rattle.cany_base.specs.declared.step.Step.{Step}
use Rattle.cany_base.specs.Params.{Parameters}
use Rattle.cany_base.specs.Scenario.{ScenarioParts}
use Rattle.cany_model.specs.Bus.Restart.{after_restarts, first_cycle}
use Rattle.cany_model.specs.Runs.Run.{run}
use Rattle.cany_model.specs.Bus.Slot.{FaultScript, after_slot, script}
use Rattle.cany_model.specs.Bus.State.{Incarnation, NodeState, RunState, fresh, node_at, opening}
use Rattle.cany_model.proofs.Bus.Restarts.{restarts_or_stays}
use Rattle.cany_model.proofs.Runs.Runs.{along_run}
use Rattle.cany_model.proofs.Bus.States.{node_at-opening, node_at_past}
use Rattle.cany_model.proofs.Runs.Steps.{after_slot-length, after_slot-present, after_turn-present}

abbrev pub HasFirstCycle : Parameters → Incarnation → Type 0
HasFirstCycle p inc = 0 < inc.number → inc.cycle ≡ first_cycle p inc.from

abbrev AllFirst : Parameters → RunState → Type 0
AllFirst p s = (i : ℕ) → HasFirstCycle p (node_at s.nodes i).present

-- where there is no node there is no restarted one
first_past : (p : Parameters) (s : RunState) (i : ℕ) → length s.nodes ≤ i → HasFirstCycle p (node_at s.nodes i).present
first_past p s i past = rw (node_at_past s.nodes i past) (λ later. absurd (omega (arith, later)))

first_opening : (p : Parameters) (nodes : ℕ) → AllFirst p (opening nodes)
first_opening p nodes i = elim (cases_lt i nodes) [
  | inl below ↦ rw (node_at-opening nodes i below) (λ later. absurd (omega (arith, later)))
  | inr past ↦ first_past p (opening nodes) i (subst (λ n. n ≤ i) (sym (length-replicate nodes fresh)) past)
]

first_slot : (p : Parameters) (rules : FaultScript) (s : RunState) → AllFirst p s → AllFirst p (after_slot rules s)
first_slot p rules s all i = elim (cases_lt i (length s.nodes)) [
  | inl below ↦ subst (HasFirstCycle p) (sym (after_slot-present rules s i below)) (all i)
  | inr past ↦ first_past p (after_slot rules s) i (subst (λ n. n ≤ i) (sym (after_slot-length rules s)) past)
]

first_restarts : (scenario : ScenarioParts) (s : RunState) → AllFirst scenario.params s
    → AllFirst scenario.params (after_restarts scenario s)
first_restarts scenario s all i = elim (restarts_or_stays scenario s i) [
  | inl new ↦ rw new.is (λ later. refl)
  | inr same ↦ subst (λ (node : NodeState). HasFirstCycle scenario.params node.present) (sym same) (all i)
]

-- in every run, of each node
pub has_first_cycle : (scenario : ScenarioParts) (journal : List Step) (i : ℕ)
    → HasFirstCycle scenario.params (node_at (run scenario journal).nodes i).present
has_first_cycle scenario journal =
    along_run scenario (AllFirst scenario.params) (first_opening scenario.params scenario.params.nodes) (record {
      slot = λ s o may all. first_slot scenario.params (script scenario.rules) s all;
      restarts = λ s o some all. first_restarts scenario s all;
      turn = λ s i o may all j. subst (HasFirstCycle scenario.params) (sym (after_turn-present scenario i s j may (o.unread i))) (all j);
    })
    journal
