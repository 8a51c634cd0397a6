-- The round robin journal: per slot the slot, and then the turns of the running nodes that have
-- something to read, ascending.
use Rattle.std.specs.Prelude.{ℕ, zero, suc, ◌&&◌, Bool, nat_lt, List, [], ◌∷◌, ◌++◌, length, filter, map}
use Rattle.std.specs.List.{range_with_len}
use Rattle.cany_base.specs.declared.step.Step.{Step}
use Rattle.cany_base.specs.declared.step.Step.TheVariants.{Slot, Turn}
use Rattle.cany_base.specs.Scenario.{ScenarioParts}
use Rattle.cany_model.specs.Runs.Run.{after_step, run_from}
use Rattle.cany_model.specs.Bus.State.{NodeState, RunState, opening, node_at, runs}

-- whether a node runs and has an unread notice
abbrev pub is_to_read : NodeState → Bool
is_to_read node = runs node && nat_lt 0 node.unread

abbrev pub reading_nodes : List NodeState → List ℕ
reading_nodes nodes = filter (λ i. is_to_read (node_at nodes i)) (range_with_len 0 (length nodes))

-- the steps of one slot
unfoldable pub round : ScenarioParts → RunState → List Step
round scenario s = Slot ∷ map (λ i. Turn i) (reading_nodes (after_step scenario s Slot).nodes)

unfoldable pub rounds : ScenarioParts → ℕ → RunState → List Step
rounds scenario zero s = []
rounds scenario (suc slots) s = round scenario s ++ rounds scenario slots (run_from scenario s (round scenario s))

abbrev pub round_robin : ScenarioParts → List Step
round_robin scenario = rounds scenario scenario.params.slots (opening scenario.params.nodes)
