-- How much a node can come to hold in a run: what it may ask for, what it may enter.
use Rattle.std.specs.Prelude.{◌≡◌, ℕ, ◌+◌, ◌*◌, ◌/◌, ◌<◌, ◌≤◌, List, length, count_by, Contains}
use Rattle.cany_base.specs.declared.class.Class.{Class}
use Rattle.cany_base.specs.declared.class.Class.TheVariants.{Accept, Rha, Els, Fda, Join, Leave, Confirm, Tot, Rel, Ed}
use Rattle.cany_base.specs.declared.message.NodeAsk.{NodeAsk}
use Rattle.cany_base.specs.declared.message.Service.{Service}
use Rattle.cany_base.specs.declared.message.Service.TheVariants as service
use Rattle.cany_base.specs.Cycles.{cycle_of}
use Rattle.cany_base.specs.Scenario.{ScenarioParts}
use Rattle.cany_model.specs.Bus.Frames.{Identity}
use Rattle.cany_model.specs.Rules.Messages.{IsOfMessage, is_service}

-- the identity names a node of the bus, and a number that it can reach in a run by intervals of
-- this length
pub record IsOfNode (scenario : ScenarioParts) (interval : ℕ) (x : Identity) : Type 0 where
  pub node : x.node < scenario.params.nodes
  pub number : x.number ≤ scenario.params.slots / interval

-- the identity names a node of the bus, and a life sign that it can have sent in a run
pub record IsOfLife (scenario : ScenarioParts) (x : Identity) : Type 0 where
  pub node : x.node < scenario.params.nodes
  pub passed : x.number * scenario.params.life ≤ scenario.params.slots

-- the identity names node i, and a membership cycle of the run
pub record IsOfVector (scenario : ScenarioParts) (i : ℕ) (x : Identity) : Type 0 where
  pub node : x.node ≡ i
  pub number : x.number ≤ scenario.params.slots / scenario.params.cycle

-- the identity names node i, and the cycle of one of these scripted asks of it
pub record IsOfAsk (scenario : ScenarioParts) (asks : List NodeAsk) (i : ℕ) (x : Identity) : Type 0 where
  pub ask : NodeAsk
  pub stands : Contains asks ask
  pub asker : ask.node ≡ i
  pub node : x.node ≡ i
  pub number : x.number ≡ cycle_of scenario.params ask.slot

-- A frame of this identity may come to wait at node i, by its class: it is a frame of a message of
-- the service, a vector of its own, a life sign, a failure sign, or a scripted ask of its own.
abbrev pub IsAskableAs : ScenarioParts → ℕ → Identity → Class → Type 0
IsAskableAs scenario i x Accept = IsOfMessage scenario service.Tot x
IsAskableAs scenario i x Rha = IsOfVector scenario i x
IsAskableAs scenario i x Els = IsOfLife scenario x
IsAskableAs scenario i x Fda = IsOfNode scenario scenario.params.cycle x
IsAskableAs scenario i x Join = IsOfAsk scenario scenario.joins i x
IsAskableAs scenario i x Leave = IsOfAsk scenario scenario.leaves i x
IsAskableAs scenario i x Confirm = IsOfMessage scenario service.Rel x
IsAskableAs scenario i x Tot = IsOfMessage scenario service.Tot x
IsAskableAs scenario i x Rel = IsOfMessage scenario service.Rel x
IsAskableAs scenario i x Ed = IsOfMessage scenario service.Ed x

abbrev pub IsAskable : ScenarioParts → ℕ → Identity → Type 0
IsAskable scenario i x = IsAskableAs scenario i x x.class

-- at most so many membership cycles start after slot 0
abbrev pub cycles : ScenarioParts → ℕ
cycles scenario = scenario.params.slots / scenario.params.cycle

-- how many sends are by this service
abbrev pub sends_by : ScenarioParts → Service → ℕ
sends_by scenario by = count_by (λ send. is_service by send.service) scenario.sends

-- the frames that may wait at a node: at least as many as the classes have together
abbrev pub waiting_room : ScenarioParts → ℕ
waiting_room scenario =
    2 * length scenario.sends + (scenario.params.nodes + 1) * (cycles scenario + 2)
    + (length scenario.joins + length scenario.leaves) + 4

-- the actions of a turn
abbrev pub actions_room : ScenarioParts → ℕ
actions_room scenario = 4 * waiting_room scenario

-- the entries of a log
abbrev pub log_room : ScenarioParts → ℕ
log_room scenario = length scenario.sends + cycles scenario + scenario.params.nodes * (cycles scenario + 1)
