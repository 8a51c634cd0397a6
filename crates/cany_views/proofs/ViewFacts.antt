-- What a value of views stands for with other sets: before anything is heard, outside, and with a
-- vector that becomes the view.
use Rattle.std.proofs.Common.{◌≡◌, ℕ, ◌<◌, refl, ap, arith}
use Rattle.cany_base.specs.Nodes.{AllBelow, Nodes, nobody, meet, minus}
use Rattle.cany_base.specs.Scenario.{ScenarioParts, IsLegalScenario}
use Rattle.cany_model.specs.Rules.Knowledge.{Knowledge, knowledge_at_first}
use Rattle.cany_model.specs.Rules.Views.{with_view}
use Rattle.cany_views.specs.Views.{HasNodesOfBus, IsInBounds, IsViewsOf, ViewsParts, asked_cycles}
use Rattle.cany_views.specs.ViewsSteps.{installed}
use Rattle.cany_views.proofs.AskFacts.{asked_small}
use Rattle.cany_base.proofs.SetFacts.{below_meet, below_minus, below_nobody}
use Rattle.cany_model.proofs.Rules.NumberFacts.{cycle_small}

-- ---- with other sets

abbrev pub with_sets : Nodes → Nodes → Nodes → ViewsParts → ViewsParts
with_sets members joiners leavers v = record v { members = members; joiners = joiners; leavers = leavers }

-- it keeps its bounds
pub bounds_with : (v : ViewsParts) (members joiners leavers : Nodes) → IsInBounds v
    → HasNodesOfBus (with_sets members joiners leavers v) → IsInBounds (with_sets members joiners leavers v)
bounds_with v members joiners leavers h below =
    record { node = h.node; below = below; length = h.length; cycles = h.cycles; joins = h.joins; leaves = h.leaves }

-- and stands for a knowledge that has these sets
pub stands_with : (scenario : ScenarioParts) (i : ℕ) (knowledge after : Knowledge) (v : ViewsParts) (members joiners leavers : Nodes)
    → IsViewsOf scenario i knowledge v → HasNodesOfBus (with_sets members joiners leavers v)
    → members ≡ after.members → joiners ≡ after.joiners → leavers ≡ after.leavers
    → IsViewsOf scenario i after (with_sets members joiners leavers v)
stands_with scenario i knowledge after v members joiners leavers h below is_members is_joiners is_leavers =
    record { limits = h.limits; members = is_members; joiners = is_joiners; leavers = is_leavers; below = below }

-- ---- before anything is heard

-- outside no member is known, and nobody has asked
pub outside_below : (v : ViewsParts) → HasNodesOfBus (with_sets nobody nobody nobody v)
outside_below v = record {
  members = below_nobody v.params.nodes;
  joiners = below_nobody v.params.nodes;
  leavers = below_nobody v.params.nodes;
}

pub outside_stands : (scenario : ScenarioParts) (i : ℕ) (knowledge : Knowledge) (v : ViewsParts) → IsViewsOf scenario i knowledge v
    → IsViewsOf scenario i (knowledge_at_first nobody) (with_sets nobody nobody nobody v)
outside_stands scenario i knowledge v h =
    stands_with scenario i knowledge (knowledge_at_first nobody) v nobody nobody nobody h (outside_below v) refl refl refl

-- the value that is built
abbrev pub first_views : ScenarioParts → ℕ → ViewsParts
first_views scenario i = record {
  node = i;
  params = scenario.params;
  members = scenario.members;
  joiners = nobody;
  leavers = nobody;
  joins = asked_cycles scenario.params i scenario.joins;
  leaves = asked_cycles scenario.params i scenario.leaves;
}

pub first_stands : (scenario : ScenarioParts) (i : ℕ) → IsLegalScenario scenario
    → IsViewsOf scenario i (knowledge_at_first scenario.members) (first_views scenario i)
first_stands scenario i legal = record {
  limits = record { legal = legal; is_node = refl; are_params = refl; are_joins = refl; are_leaves = refl };
  members = refl;
  joiners = refl;
  leavers = refl;
  below = record {
    members = legal.members;
    joiners = below_nobody scenario.params.nodes;
    leavers = below_nobody scenario.params.nodes;
  };
}

pub first_bounds : (scenario : ScenarioParts) (i : ℕ) → IsLegalScenario scenario → i < scenario.params.nodes
    → IsInBounds (first_views scenario i)
first_bounds scenario i legal near = record {
  node = near;
  below = (first_stands scenario i legal).below;
  length = omega (arith, legal.in_range.cycle.0);
  cycles = cycle_small scenario legal;
  joins = asked_small scenario legal i scenario.joins legal.joins;
  leaves = asked_small scenario legal i scenario.leaves legal.leaves;
}

-- ---- a vector becomes the view

pub view_stands : (scenario : ScenarioParts) (i : ℕ) (knowledge : Knowledge) (v : ViewsParts) → IsViewsOf scenario i knowledge v
    → (slot : ℕ) (vector : Nodes) → AllBelow v.params.nodes vector
    → IsViewsOf scenario i (with_view i slot vector knowledge) (installed vector v)
view_stands scenario i knowledge v h slot vector below =
    stands_with scenario i knowledge (with_view i slot vector knowledge) v vector (minus v.joiners vector) (meet v.leavers vector) h
    (record {
      members = below;
      joiners = below_minus v.params.nodes v.joiners vector h.below.joiners;
      leavers = below_meet v.params.nodes v.leavers vector h.below.leavers;
    })
    refl (ap (λ joiners. minus joiners vector) h.joiners) (ap (λ leavers. meet leavers vector) h.leavers)
