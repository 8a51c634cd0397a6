-- The timed guarantees, of every run within the fault hypothesis of a scenario that meets the
-- formulas.
use Rattle.std.specs.Prelude.{◌≡◌, ℕ, ◌≤◌, List, Contains}
use Rattle.cany_base.specs.Limits.{most_nodes}
use Rattle.cany_base.specs.declared.message.MsgKey.{MsgKey}
use Rattle.cany_base.specs.declared.message.Service.TheVariants.{Tot}
use Rattle.cany_base.specs.declared.step.Step.{Step}
use Rattle.cany_base.specs.Nodes.{AllBelow}
use Rattle.cany_base.specs.Params.{MeetsFormulas}
use Rattle.cany_base.specs.Scenario.{IsLegalScenario, ScenarioParts}
use Rattle.cany_base.proofs.ParamsFacts.{few_nodes}
use Rattle.cany_model.specs.Runs.Run.{run}
use Rattle.cany_model.specs.Promises.Acceptance.{IsAcceptedByAllOrNone, WasCarriedClean}
use Rattle.cany_model.specs.Promises.Hypothesis.{IsWithin}
use Rattle.cany_model.specs.Promises.OneView.{HasOneView, InstallsOneVector}
use Rattle.cany_model.specs.Promises.Order.{HasOneOrder}
use Rattle.cany_model.specs.Promises.Quiet.{HasFewAskingSlots, HasQuietSlots}
use Rattle.cany_model.specs.Promises.Safe.{IsAgreedOn}
use Rattle.cany_model.specs.Promises.Windows.{HasFewAccepts, HasFewLifeSigns, HasFewTotFrames}
use Rattle.cany_model.specs.Rules.Messages.{Message, messages_of}
use Rattle.cany_model.proofs.Timed.Order.Accepts.{AcceptedAt, acceptance, acceptance_at}
use Rattle.cany_model.proofs.Timed.Windows.AskingSlots.{few_asking_slots}
use Rattle.cany_model.proofs.Timed.Windows.FewSigns.{few_signs_of}
use Rattle.cany_model.proofs.Timed.Windows.FewVectors.{few_vectors}
use Rattle.cany_model.proofs.Timed.Order.OneOrder.{one_order}
use Rattle.cany_model.proofs.Timed.Views.OneVector.{one_vector}
use Rattle.cany_model.proofs.Timed.Views.OneView.{one_view}
use Rattle.cany_model.proofs.Timed.Windows.QuietSlots.{quiet_slots}
use Rattle.cany_model.proofs.Timed.Order.TotCount.{few_accepts, few_tot_frames, within_silent}
use Rattle.cany_model.proofs.Timed.Order.TotKept.{TotKept}
use Rattle.cany_model.proofs.Timed.Order.TotRun.{tot_kept}
use Rattle.cany_model.proofs.Timed.Order.TotSettled.{totcan_agrees}

-- ---- of a scenario that need not meet the formulas

pub accepts_are_few : (scenario : ScenarioParts) (journal : List Step) → scenario.params.nodes ≤ most_nodes
    → IsWithin scenario.params (run scenario journal).trace → HasFewAccepts scenario.params (run scenario journal).trace
accepts_are_few scenario journal few within = few_accepts scenario few journal (within_silent scenario (run scenario journal).trace within)

pub tot_frames_are_few : (scenario : ScenarioParts) (journal : List Step) → scenario.params.nodes ≤ most_nodes
    → IsWithin scenario.params (run scenario journal).trace → HasFewTotFrames scenario.params (run scenario journal).trace
tot_frames_are_few scenario journal few within = few_tot_frames scenario few journal (within_silent scenario (run scenario journal).trace within)

kept : (scenario : ScenarioParts) (journal : List Step) → scenario.params.nodes ≤ most_nodes
    → IsWithin scenario.params (run scenario journal).trace → TotKept scenario (run scenario journal)
kept scenario journal few within = tot_kept scenario few journal (within_silent scenario (run scenario journal).trace within)

-- ---- of one that does

module _ (scenario : ScenarioParts) (journal : List Step) (few : scenario.params.nodes ≤ most_nodes) (formulas : MeetsFormulas scenario.params)
    (members : AllBelow scenario.params.nodes scenario.members) (within : IsWithin scenario.params (run scenario journal).trace) where
  pub signs_are_few : HasFewLifeSigns scenario.params (run scenario journal).trace
  signs_are_few =
      few_signs_of scenario journal few formulas within (accepts_are_few scenario journal few within) (few_vectors scenario journal few formulas members)

  pub asking_slots_are_few : HasFewAskingSlots scenario (run scenario journal)
  asking_slots_are_few =
      few_asking_slots scenario journal few formulas within (accepts_are_few scenario journal few within)
      (few_vectors scenario journal few formulas members) (tot_frames_are_few scenario journal few within)

  pub slots_are_quiet : HasQuietSlots scenario journal
  slots_are_quiet =
      quiet_slots scenario journal few formulas within (accepts_are_few scenario journal few within)
      (few_vectors scenario journal few formulas members) signs_are_few (tot_frames_are_few scenario journal few within)

  pub accepted_by_all_or_none : (key : MsgKey) (c : ℕ) → WasCarriedClean (run scenario journal).trace key c
      → IsAcceptedByAllOrNone scenario (run scenario journal) key c
  accepted_by_all_or_none = acceptance scenario journal few within slots_are_quiet

  accepted : AcceptedAt scenario (run scenario journal)
  accepted = acceptance_at scenario journal few within slots_are_quiet

  pub ordered : HasOneOrder scenario (run scenario journal)
  ordered = one_order scenario journal few within (kept scenario journal few within) accepted

  pub tot_agrees : (m : Message) → Contains (messages_of scenario.sends) m → m.service ≡ Tot → IsAgreedOn scenario (run scenario journal) m
  tot_agrees = totcan_agrees scenario journal few within (kept scenario journal few within) accepted

-- ---- of a legal scenario

pub one_vector_each : (scenario : ScenarioParts) → IsLegalScenario scenario → (journal : List Step) → IsWithin scenario.params (run scenario journal).trace
    → (k : ℕ) → InstallsOneVector scenario (run scenario journal) k
one_vector_each scenario legal journal within =
    let few = few_nodes scenario.params legal.in_range in
    one_vector scenario journal few legal.in_range.nodes.1 legal.formulas legal.members within
    (slots_are_quiet scenario journal few legal.formulas legal.members within)

pub one_view_each : (scenario : ScenarioParts) → IsLegalScenario scenario → (journal : List Step) → IsWithin scenario.params (run scenario journal).trace
    → HasOneView scenario (run scenario journal)
one_view_each scenario legal journal within =
    let few = few_nodes scenario.params legal.in_range in
    one_view scenario journal few legal.in_range.nodes.1 legal.formulas legal.members within
    (slots_are_quiet scenario journal few legal.formulas legal.members within)
