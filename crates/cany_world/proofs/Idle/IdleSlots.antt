-- Idle slots in a run: in what state the next slots are idle and lead no node to do anything, and
-- what they leave.
use Rattle.std.specs.Prelude.{◌≡◌, ℕ, zero, suc, ◌+◌, ◌<◌, true, false, if◌then◌else◌, List, [], ◌∷◌, ◌++◌, length, filter, map}
use Rattle.std.specs.List.{range_with_len}
use Rattle.cany_base.specs.declared.step.Step.{Step}
use Rattle.cany_base.specs.declared.step.Step.TheVariants.{Slot, Turn}
use Rattle.cany_base.specs.Scenario.{ScenarioParts}
use Rattle.cany_model.specs.Bus.History.{history}
use Rattle.cany_model.specs.Bus.Slot.{exceeds}
use Rattle.cany_model.specs.Bus.State.{NodeState, RunState, node_at, runs}
use Rattle.cany_model.specs.Rules.Turn.{effects_for}
use Rattle.can_bus.specs.Rest.{idle_trace}
use Rattle.cany_world.specs.Resting.{IsOpen}

-- A node after so many idle slots: a running one has read them, of a stopped one a run goes on
-- counting the slots as unread.
abbrev pub rested : ℕ → NodeState → NodeState
rested slots node = if runs node then node else record node { unread = node.unread + slots }

-- the state after so many idle slots, each with the turns of the running nodes
abbrev pub after_rest : ℕ → RunState → RunState
after_rest slots s = record { trace = idle_trace slots s.trace; nodes = map (rested slots) s.nodes }

-- the steps of one of them
abbrev pub idle_round : List NodeState → List Step
idle_round nodes = Slot ∷ map (λ i. Turn i) (filter (λ i. runs (node_at nodes i)) (range_with_len 0 (length nodes)))

-- those of so many
unfoldable pub idle_rounds : ℕ → List NodeState → List Step
idle_rounds zero nodes = []
idle_rounds (suc slots) nodes = idle_round nodes ++ idle_rounds slots nodes

-- the node waits with nothing, has read every notice, and its counters do not stop it
pub record HasNothingToDo (node : NodeState) : Type 0 where
  pub waiting : node.waiting ≡ []
  pub unread : node.unread ≡ 0
  pub counters : exceeds node ≡ false

-- So many slots are left, of which the script says nothing. The running nodes have nothing to do,
-- and at none of the slots have they anything to do.
pub record MayRest (scenario : ScenarioParts) (s : RunState) (slots : ℕ) : Type 0 where
  pub left : IsOpen scenario s slots
  pub nothing_to_do : (i : ℕ) → runs (node_at s.nodes i) ≡ true → HasNothingToDo (node_at s.nodes i)
  pub nothing : (n i : ℕ) → n < slots → runs (node_at s.nodes i) ≡ true
      → effects_for (node_at s.nodes i).present.number scenario (node_at s.nodes i).present i (history i (after_rest (n + 1) s)) ≡ []
