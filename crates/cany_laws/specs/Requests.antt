-- How often the bus carries the frames by which a node asks to join and to leave.
use Rattle.std.specs.Prelude.{ℕ, ◌≤◌, ◌==◌, ◌&&◌, List, count_by}
use Rattle.cany_base.specs.declared.class.Class.TheVariants.{Join, Leave}
use Rattle.cany_base.specs.declared.message.NodeAsk.{NodeAsk}
use Rattle.cany_base.specs.Cycles.{cycle_of}
use Rattle.cany_base.specs.Params.{Parameters}
use Rattle.cany_base.specs.Scenario.{ScenarioParts}
use Rattle.cany_model.specs.Bus.State.{RunState}
use Rattle.cany_model.specs.Rules.Views.{ask_of}
use Rattle.cany_laws.specs.Carried.{times_clean}

-- how many of these entries are of the node and of a slot of the cycle: the node asks by one and
-- the same frame for all of them
abbrev pub entries_of : Parameters → ℕ → ℕ → List NodeAsk → ℕ
entries_of p node cycle asks = count_by (λ ask. ask.node == node && cycle_of p ask.slot == cycle) asks

-- The frame by which a node asks in a cycle to join the bus has carried Clean once at most for each
-- entry by which the node asks in a slot of the cycle to join; and so the frame by which it asks to
-- leave.
pub record CarriesFewRequests (scenario : ScenarioParts) (s : RunState) (node cycle : ℕ) : Type 0 where
  pub joins : times_clean (ask_of Join cycle node) s.trace ≤ entries_of scenario.params node cycle scenario.joins
  pub leaves : times_clean (ask_of Leave cycle node) s.trace ≤ entries_of scenario.params node cycle scenario.leaves
