-- Every run within the fault hypothesis of a legal scenario is safe.
use Rattle.std.proofs.Common.{◌≡◌, List, Contains, refl}
use Rattle.cany_base.specs.declared.message.Service.{Service}
use Rattle.cany_base.specs.declared.message.Service.TheVariants.{Ed, Rel, Tot}
use Rattle.cany_base.specs.declared.step.Step.{Step}
use Rattle.cany_base.specs.Scenario.{IsLegalScenario, ScenarioParts}
use Rattle.cany_base.proofs.ParamsFacts.{few_nodes}
use Rattle.cany_model.specs.Runs.Run.{run}
use Rattle.cany_model.specs.Promises.Hypothesis.{IsWithin}
use Rattle.cany_model.specs.Promises.Safe.{IsAgreedOn, IsSafe}
use Rattle.cany_model.specs.Rules.Messages.{Message, messages_of}
use Rattle.cany_model.proofs.Promises.EdcanAgrees.{edcan_agrees}
use Rattle.cany_model.proofs.Promises.Integrity.{integral}
use Rattle.cany_model.proofs.Promises.RelcanAgrees.{relcan_agrees}
use Rattle.cany_model.proofs.Promises.SignAgrees.{sign_agrees}
use Rattle.cany_model.proofs.Timed.Guarantees.{one_view_each, ordered, tot_agrees}

agrees : (scenario : ScenarioParts) → IsLegalScenario scenario → (journal : List Step) → IsWithin scenario.params (run scenario journal).trace
    → (m : Message) → Contains (messages_of scenario.sends) m → (by : Service) → m.service ≡ by → IsAgreedOn scenario (run scenario journal) m
agrees scenario legal journal within m stands Ed is = edcan_agrees scenario (few_nodes scenario.params legal.in_range) journal within m stands is
agrees scenario legal journal within m stands Rel is = relcan_agrees scenario (few_nodes scenario.params legal.in_range) journal within m stands is
agrees scenario legal journal within m stands Tot is =
    tot_agrees scenario journal (few_nodes scenario.params legal.in_range) legal.formulas legal.members within m stands is

pub safe : (scenario : ScenarioParts) → IsLegalScenario scenario → (journal : List Step) → IsWithin scenario.params (run scenario journal).trace
    → IsSafe scenario (run scenario journal)
safe scenario legal journal within = record {
  integrity = integral scenario journal (few_nodes scenario.params legal.in_range);
  agreement = λ m stands. agrees scenario legal journal within m stands m.service refl;
  order = ordered scenario journal (few_nodes scenario.params legal.in_range) legal.formulas legal.members within;
  views = one_view_each scenario legal journal within;
  signs = λ sign. sign_agrees scenario (few_nodes scenario.params legal.in_range) journal within sign;
}
