-- What a value of views stands for.
use Rattle.std.specs.Prelude.{◌≡◌, ℕ, ◌<◌, ◌==◌, List, filter, map, All}
use Rattle.cany_base.specs.declared.message.NodeAsk.{NodeAsk}
use Rattle.cany_base.specs.declared.notice.Notice.{Notice}
use Rattle.cany_base.specs.Limits.{most_numbers}
use Rattle.cany_base.specs.Nodes.{AllBelow, Nodes}
use Rattle.cany_base.specs.Params.{Parameters}
use Rattle.cany_base.specs.Scenario.{ScenarioParts, IsLegalScenario}
use Rattle.cany_model.specs.Rules.Notices.{IsReadable}
use Rattle.cany_model.specs.Rules.Knowledge.{Knowledge}
use Rattle.cany_base.specs.Cycles.{cycle_of}

-- the node, the parameters, its view of the site, the nodes that have asked to join it and those
-- that have asked to leave it, and the cycles in which the node's own script asks to join and to
-- leave
pub record ViewsParts : Type 0 where
  pub node : ℕ
  pub params : Parameters
  pub members : Nodes
  pub joiners : Nodes
  pub leavers : Nodes
  pub joins : List ℕ
  pub leaves : List ℕ

-- the sets have nodes of the bus alone
pub record HasNodesOfBus (v : ViewsParts) : Type 0 where
  pub members : AllBelow v.params.nodes v.members
  pub joiners : AllBelow v.params.nodes v.joiners
  pub leavers : AllBelow v.params.nodes v.leavers

-- frames can have each of these numbers
abbrev pub AreNumbers : List ℕ → Type 0
AreNumbers cycles = All (λ cycle. cycle < most_numbers) cycles

-- What is true of every value: its nodes are those of the bus, a cycle has slots, and frames can
-- have the numbers of the cycles of the run and of its asks.
pub record IsInBounds (v : ViewsParts) : Type 0 where
  pub node : v.node < v.params.nodes
  pub below : HasNodesOfBus v
  pub length : 0 < v.params.cycle
  pub cycles : (slot : ℕ) → slot < v.params.slots → cycle_of v.params slot < most_numbers
  pub joins : AreNumbers v.joins
  pub leaves : AreNumbers v.leaves

-- the cycles of those of the asks that node i makes, in file order
abbrev pub asked_cycles : Parameters → ℕ → List NodeAsk → List ℕ
asked_cycles p i asks = map (λ ask. cycle_of p ask.slot) (filter (λ ask. ask.node == i) asks)

-- what never changes: what the scenario tells of node i
pub record HasLimitsOf (scenario : ScenarioParts) (i node : ℕ) (params : Parameters) (joins leaves : List ℕ) : Type 0 where
  pub legal : IsLegalScenario scenario
  pub is_node : node ≡ i
  pub are_params : params ≡ scenario.params
  pub are_joins : joins ≡ asked_cycles scenario.params i scenario.joins
  pub are_leaves : leaves ≡ asked_cycles scenario.params i scenario.leaves

-- The value is that of node i where it knows what this knowledge knows of members, and of who has
-- asked.
pub record IsViewsOf (scenario : ScenarioParts) (i : ℕ) (knowledge : Knowledge) (v : ViewsParts) : Type 0 where
  pub limits : HasLimitsOf scenario i v.node v.params v.joins v.leaves
  pub members : v.members ≡ knowledge.members
  pub joiners : v.joiners ≡ knowledge.joiners
  pub leavers : v.leavers ≡ knowledge.leavers
  pub below : HasNodesOfBus v

-- there is a scenario, and what is known in it, that the value stands for, and its nodes can read
-- the notice
pub record CanHear (v : ViewsParts) (notice : Notice) : Type 0 where
  pub scenario : ScenarioParts
  pub knowledge : Knowledge
  pub stands : IsViewsOf scenario v.node knowledge v
  pub readable : IsReadable scenario notice.slot notice.kind
