-- The scripted asks of a node to join the view of the site, or to leave it, that are still to come.
use Rattle.std.specs.Prelude.{◌≡◌, ◌<◌, ◌≤◌, ◌==◌, ℕ, Bool, List, [], ◌∷◌, length, filter, map}
use Rattle.cany_base.specs.declared.message.NodeAsk.{NodeAsk}
use Rattle.cany_base.specs.Nodes.{Nodes}
use Rattle.cany_base.specs.Params.{Parameters}
use Rattle.cany_base.specs.Scenario.{ScenarioParts}
use Rattle.cany_model.specs.Rules.Effect.{Effect}
use Rattle.cany_model.specs.Rules.Membership.{asks_in, is_ask_in}
use Rattle.cany_model.specs.Rules.Views.{join_asked, leave_asked}
use Rattle.cany_node.specs.declared.asks.AskKind.{AskKind}
use Rattle.cany_node.specs.declared.asks.AskKind.TheVariants.{Join, Leave}

-- the scripted asks of a kind
abbrev pub asks_of : AskKind → ScenarioParts → List NodeAsk
asks_of Join scenario = scenario.joins
asks_of Leave scenario = scenario.leaves

-- what is asked for by one of them in its slot
abbrev pub asked_as : AskKind → Parameters → ℕ → ℕ → ℕ → Nodes → List Effect
asked_as Join p inc i slot members = join_asked p inc i slot members
asked_as Leave p inc i slot members = leave_asked p inc i slot members

abbrev pub slot_of : NodeAsk → ℕ
slot_of ask = ask.slot

abbrev pub is_of_node : ℕ → NodeAsk → Bool
is_of_node i ask = ask.node == i

abbrev pub is_at : ℕ → ℕ → Bool
is_at slot s = s == slot

-- the slots do not fall, and the first is not before this one
unfoldable pub IsRisingFrom : ℕ → List ℕ → Type 0
IsRisingFrom slot [] = Unit {0}
IsRisingFrom slot (s ∷ slots) = (slot ≤ s) × IsRisingFrom s slots

-- the slots of all of these asks that node i makes
pub record IsAskPlanOf (i : ℕ) (asks : List NodeAsk) (plan : List ℕ) : Type 0 where
  pub left : (s : ℕ) → filter (is_at s) plan ≡ map slot_of (filter (is_ask_in i s) asks)
  pub rising : IsRisingFrom 0 plan
  pub few : length plan ≤ length asks

-- those of the asks that are made in the slots from this one on
pub record AreAsksOf (scenario : ScenarioParts) (i slot : ℕ) (asks : List NodeAsk) (plan : List ℕ) : Type 0 where
  pub left : (s : ℕ) → slot ≤ s → filter (is_at s) plan ≡ map slot_of (asks_in scenario i s asks)
  pub rising : IsRisingFrom slot plan
  pub few : length plan ≤ length asks

-- those of slots before this one are passed over
pub record AreAsksPassed (slot : ℕ) (old new : List ℕ) : Type 0 where
  pub later : (s : ℕ) → slot ≤ s → filter (is_at s) new ≡ filter (is_at s) old
  pub rising : IsRisingFrom 0 old → IsRisingFrom slot new
  pub few : length new ≤ length old

-- the first of these comes before the slot, and the others are left
pub record IsNextBefore (slot : ℕ) (old new : List ℕ) : Type 0 where
  pub taken : ℕ
  pub split : old ≡ taken ∷ new
  pub before : taken < slot
