use Rattle.std.proofs.Common.{◌≡◌, ℕ, List, take}
use Rattle.std.specs.List.{AllByRecursion}
use Rattle.cany_base.specs.Scenario.{ScenarioParts, IsLegalScenario}
use Rattle.cany_model.specs.Rules.Actions.{actions_of}
use Rattle.cany_model.specs.Rules.Effect.{Effect}
use Rattle.cany_node.specs.Apply.{NamesAskable, AreDone, all_stamped}
use Rattle.cany_node.specs.Stamping.{AreStamped}
use Rattle.cany_node.proofs.apply.apply_all.Given as goal

abbrev pub invariant-loop-action : goal.invariant-loop-action
invariant-loop-action l =
    (scenario : ScenarioParts) (i : ℕ) (effects : List Effect) → IsLegalScenario scenario → l.fn.ctl.params.format ≡ scenario.params.format
    → l.out.items ≡ actions_of scenario.params.format effects → AllByRecursion (NamesAskable scenario i) effects
    → AreStamped l.inc l.fn.ctl.waiting
    → AreDone (all_stamped l.inc (take l.action-index effects)) l.fn.ctl l.ctl l.fn.log l.log
