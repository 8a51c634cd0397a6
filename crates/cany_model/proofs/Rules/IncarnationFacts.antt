-- An incarnation in its turns: it follows a scenario of its own.
use Rattle.std.proofs.Common.{◌≡◌, ℕ, zero, suc, List, refl}
use Rattle.std.proofs.lemmas.Bool.{eq-eqb}
use Rattle.cany_base.specs.declared.notice.NoticeKind.{NoticeKind}
use Rattle.cany_base.specs.Scenario.{ScenarioParts}
use Rattle.cany_model.specs.Bus.State.{Incarnation}
use Rattle.cany_model.specs.Rules.Turn.{effects_for, scenario_for, turn_effects}

-- the incarnation of the opening follows the scenario as it is
pub scenario_for-original : (scenario : ScenarioParts) (inc : Incarnation) → inc.number ≡ 0 → scenario_for scenario inc ≡ scenario
scenario_for-original scenario inc first = rw (eq-eqb inc.number 0 first) refl

pub effects_for-is : (scenario : ScenarioParts) (inc : Incarnation) (i : ℕ) (past : List NoticeKind)
    → effects_for inc.number scenario inc i past ≡ turn_effects (scenario_for scenario inc) i past
effects_for-is scenario inc i past = by_number inc.number refl
  where
    by_number : (number : ℕ) → inc.number ≡ number → effects_for number scenario inc i past ≡ turn_effects (scenario_for scenario inc) i past
    by_number zero first = rw (scenario_for-original scenario inc first) refl
    by_number (suc number) later = refl
