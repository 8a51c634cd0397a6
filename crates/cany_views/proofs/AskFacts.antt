-- The cycles of a node's own asks: there are few, and frames can have their numbers.
use Rattle.std.proofs.Common.{ℕ, ◌<◌, ◌≤◌, ◌==◌, Bool, List, All, filter, length, arith}
use Rattle.std.proofs.lemmas.List.{length-map}
use Rattle.std.proofs.lemmas.List.Elements.{All-filter, All-map, All-weaker}
use Rattle.std.proofs.lemmas.List.Sums.{count_by-le-length, length-filter}
use Rattle.cany_base.specs.declared.message.NodeAsk.{NodeAsk}
use Rattle.cany_base.specs.Limits.{most_numbers}
use Rattle.cany_base.specs.Params.{Parameters}
use Rattle.cany_base.specs.Scenario.{ScenarioParts, IsAskOf, IsLegalScenario}
use Rattle.cany_base.specs.Cycles.{cycle_of}
use Rattle.cany_model.proofs.Rules.NumberFacts.{cycle_small}
use Rattle.cany_views.specs.Views.{AreNumbers, asked_cycles}

-- there are no more of them than the script has asks
pub few_asked : (p : Parameters) (i : ℕ) (asks : List NodeAsk) → length (asked_cycles p i asks) ≤ length asks
few_asked p i asks =
    let cycle : NodeAsk → ℕ = λ ask. cycle_of p ask.slot in
    let is_own : NodeAsk → Bool = λ ask. ask.node == i in
    omega (arith, length-map (filter is_own asks) cycle, length-filter is_own asks, count_by-le-length is_own asks)

-- frames can have the numbers of the cycles of all asks
pub asks_small : (scenario : ScenarioParts) → IsLegalScenario scenario → (asks : List NodeAsk) → All (IsAskOf scenario.params) asks
    → All (λ ask. cycle_of scenario.params ask.slot < most_numbers) asks
asks_small scenario legal asks all =
    All-weaker (IsAskOf scenario.params) (λ ask. cycle_of scenario.params ask.slot < most_numbers)
    (λ ask of. cycle_small scenario legal ask.slot of.0) asks all

-- among them those of the node's own
pub asked_small : (scenario : ScenarioParts) → IsLegalScenario scenario → (i : ℕ) (asks : List NodeAsk) → All (IsAskOf scenario.params) asks
    → AreNumbers (asked_cycles scenario.params i asks)
asked_small scenario legal i asks all =
    All-map (λ cycle. cycle < most_numbers) (λ (ask : NodeAsk). cycle_of scenario.params ask.slot) (filter (λ ask. ask.node == i) asks)
    (All-filter (λ ask. ask.node == i) (λ ask. cycle_of scenario.params ask.slot < most_numbers) asks (asks_small scenario legal asks all))
