-- What the failure detector and the membership promise, of every run within the fault hypothesis of
-- a legal scenario without restart entries.
use Rattle.std.specs.Prelude.{◌≡◌, ℕ, ◌<◌, ◌++◌, List, [], Some}
use Rattle.std.proofs.Common.{sym, subst}
use Rattle.cany_base.specs.declared.step.Step.{Step}
use Rattle.cany_base.specs.Scenario.{IsLegalScenario, ScenarioParts}
use Rattle.cany_base.proofs.ParamsFacts.{few_nodes}
use Rattle.cany_model.specs.Runs.Run.{run}
use Rattle.cany_model.specs.Bus.State.{node_at}
use Rattle.cany_model.specs.Promises.Detector.{AsksNoLeave, HasNotFailed, IsAdmitted, IsRemoved, JoinWasCarried, KeepsMembers, StandsAfter, StaysInViews}
use Rattle.cany_model.specs.Promises.Hypothesis.{IsWithin}
use Rattle.cany_model.specs.Promises.OneView.{InstallsOneVector}
use Rattle.cany_model.specs.Promises.Quiet.{HasQuietSlots}
use Rattle.cany_model.specs.Promises.Settled.{IsCorrect}
use Rattle.cany_model.proofs.Timed.Detector.Accuracy.{not_failed}
use Rattle.cany_model.proofs.Timed.Guarantees.{one_vector_each, slots_are_quiet}
use Rattle.cany_model.proofs.Timed.Detector.Joining.{admitted}
use Rattle.cany_model.proofs.Timed.Windows.QuietSlots.{front_trace, within_dropped}
use Rattle.cany_model.proofs.Timed.Detector.Removal.{removed}
use Rattle.cany_model.proofs.Timed.Detector.Staying.{stays}

-- what a front of the journal has led to is within the hypothesis too
pub within_front : (scenario : ScenarioParts) (journal front rest : List Step) → journal ≡ front ++ rest → IsWithin scenario.params (run scenario journal).trace
    → IsWithin scenario.params (run scenario front).trace
within_front scenario journal front rest whole within =
    let part = front_trace scenario front rest in
    subst (IsWithin scenario.params) (sym part.1)
    (within_dropped scenario.params (run scenario (front ++ rest)).trace part.0
    (subst (λ steps. IsWithin scenario.params (run scenario steps).trace) whole within))

module _ (scenario : ScenarioParts) (legal : IsLegalScenario scenario) (none : scenario.restarts ≡ []) (journal : List Step)
    (within : IsWithin scenario.params (run scenario journal).trace) where
  pub quiet_fronts : (front rest : List Step) → journal ≡ front ++ rest → HasQuietSlots scenario front
  quiet_fronts front rest whole =
      slots_are_quiet scenario front (few_nodes scenario.params legal.in_range) legal.formulas legal.members
      (within_front scenario journal front rest whole within)

  pub one_vector_fronts : (front rest : List Step) → journal ≡ front ++ rest → (k : ℕ) → InstallsOneVector scenario (run scenario front) k
  one_vector_fronts front rest whole = one_vector_each scenario legal front (within_front scenario journal front rest whole within)

  pub none_is_thrown_out : (r : ℕ) → IsCorrect scenario (run scenario journal) r → HasNotFailed scenario (run scenario journal) r
  none_is_thrown_out =
      not_failed scenario none (few_nodes scenario.params legal.in_range) legal.formulas journal within quiet_fronts one_vector_fronts

  pub members_remain : (r t : ℕ) → IsCorrect scenario (run scenario journal) r → AsksNoLeave scenario (run scenario journal) r
      → StandsAfter scenario (run scenario journal) r t → StaysInViews scenario (run scenario journal) r t
  members_remain = stays scenario none legal.in_range.nodes.1 legal.formulas legal.members journal within quiet_fronts one_vector_fronts

  pub stopped_are_removed : (r t : ℕ) → r < scenario.params.nodes → (node_at (run scenario journal).nodes r).stopped ≡ Some t
      → StandsAfter scenario (run scenario journal) r t → IsRemoved scenario (run scenario journal) r t
  stopped_are_removed = removed scenario legal.in_range.nodes.1 legal.formulas legal.members none journal one_vector_fronts

  pub joiners_are_admitted : (r k : ℕ) → r < scenario.params.nodes → JoinWasCarried scenario (run scenario journal) r k
      → IsAdmitted scenario (run scenario journal) r k
  joiners_are_admitted = admitted scenario legal.in_range.nodes.1 legal.formulas legal.members none journal one_vector_fronts

  -- all of it
  pub keeps_members : KeepsMembers scenario (run scenario journal)
  keeps_members = record {
    accuracy = none_is_thrown_out;
    staying = members_remain;
    removal = stopped_are_removed;
    admission = joiners_are_admitted;
  }
