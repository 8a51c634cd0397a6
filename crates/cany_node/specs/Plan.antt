-- The scripted sends and asks of a node before its first turn.
use Rattle.std.specs.Prelude.{ℕ}
use Rattle.cany_base.specs.Scenario.{ScenarioParts}
use Rattle.cany_node.specs.Agenda.{IsPlanOf}
use Rattle.cany_node.specs.Asks.{IsAskPlanOf}
use Rattle.cany_node.specs.declared.plan.Plan.{Plan}

-- they are those of node i, all of them still to come
pub record IsOpeningPlanOf (scenario : ScenarioParts) (i : ℕ) (plan : Plan) : Type 0 where
  pub agenda : IsPlanOf scenario i plan.agenda
  pub joins : IsAskPlanOf i scenario.joins plan.joins
  pub leaves : IsAskPlanOf i scenario.leaves plan.leaves
