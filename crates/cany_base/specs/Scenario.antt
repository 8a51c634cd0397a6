-- A scenario, and when its parts are legal.
use Rattle.std.specs.Prelude.{◌<◌, ◌≤◌, ◌≢◌, ◌==◌, ◌&&◌, ℕ, Bool, false, List, length, count_by, Option, All, AllPairs}
use Rattle.cany_base.specs.declared.message.SendAsk.{SendAsk}
use Rattle.cany_base.specs.declared.message.NodeAsk.{NodeAsk}
use Rattle.cany_base.specs.declared.rule.Rule.{Rule}
use Rattle.cany_base.specs.declared.rule.Place.{Place}
use Rattle.cany_base.specs.declared.rule.Place.TheVariants.{At, FrameNth}
use Rattle.cany_base.specs.declared.rule.Verdict.{Verdict}
use Rattle.cany_base.specs.declared.rule.Verdict.TheVariants.{Clean, Lost, Partial, Silent}
use Rattle.cany_base.specs.declared.step.Step.{Step}
use Rattle.cany_base.specs.Frame.{class_number}
use Rattle.cany_base.specs.Limits.{most_sends, most_rules, most_joins, most_leaves, most_restarts, most_restarts_of_node, greatest_attempt}
use Rattle.cany_base.specs.Nodes.{Nodes, AllBelow}
use Rattle.cany_base.specs.Params.{Parameters, IsInRange, MeetsFormulas}

pub record ScenarioParts : Type 0 where
  pub params : Parameters
  pub members : Nodes
  pub sends : List SendAsk
  pub rules : List Rule
  pub joins : List NodeAsk
  pub leaves : List NodeAsk
  -- the nodes that start again, each at the end of its slot if it is stopped then
  pub restarts : List NodeAsk
  -- The first slot whose scripted asks are made: 0 in a scenario as it is read, later in one as a
  -- restarted node follows it.
  pub from : ℕ
  -- the number of the incarnation that follows it, which some of its frames tell: 0 in a scenario
  -- as it is read
  pub inc : ℕ
  pub journal : Option (List Step)

-- a scripted send happens in a slot of the run, at a node of the bus
abbrev pub IsSendOf : Parameters → SendAsk → Type 0
IsSendOf p send = (send.slot < p.slots) × (send.node < p.nodes)

-- so does a scripted join or leave, and a restart
abbrev pub IsAskOf : Parameters → NodeAsk → Type 0
IsAskOf p ask = (ask.slot < p.slots) × (ask.node < p.nodes)

abbrev pub is_ask_of_node : ℕ → NodeAsk → Bool
is_ask_of_node node ask = ask.node == node

abbrev pub IsPlaceOf : Parameters → Place → Type 0
IsPlaceOf p (At slot) = slot < p.slots
IsPlaceOf p (FrameNth class number node nth) = (node < p.nodes) × (1 ≤ nth) × (nth ≤ greatest_attempt p.format)

-- the set of a verdict has nodes of the bus alone
abbrev pub IsVerdictOf : Parameters → Verdict → Type 0
IsVerdictOf p Clean = Unit {0}
IsVerdictOf p Lost = Unit {0}
IsVerdictOf p (Partial reject) = AllBelow p.nodes reject
IsVerdictOf p (Silent reject) = AllBelow p.nodes reject

-- whether the two are one place
abbrev pub same_place : Place → Place → Bool
same_place (At slot) (At s) = slot == s
same_place (FrameNth class number node nth) (FrameNth c n d k) = class_number class == class_number c && number == n && node == d && nth == k
same_place (At slot) (FrameNth class number node nth) = false
same_place (FrameNth class number node nth) (At slot) = false

-- no two rules have one place
abbrev pub HaveDistinctPlaces : List Rule → Type 0
HaveDistinctPlaces rules = AllPairs (λ a b. a.place ≢ b.place) rules

pub record IsRuleOf (p : Parameters) (rule : Rule) : Type 0 where
  pub place : IsPlaceOf p rule.place
  pub verdict : IsVerdictOf p rule.verdict
  pub stop : AllBelow p.nodes rule.stop

pub record IsLegalScenario (s : ScenarioParts) : Type 0 where
  pub in_range : IsInRange s.params
  pub formulas : MeetsFormulas s.params
  pub members : AllBelow s.params.nodes s.members
  pub sends : All (IsSendOf s.params) s.sends
  pub rules : All (IsRuleOf s.params) s.rules
  pub joins : All (IsAskOf s.params) s.joins
  pub leaves : All (IsAskOf s.params) s.leaves
  pub restarts : All (IsAskOf s.params) s.restarts
  pub few_sends : length s.sends ≤ most_sends
  pub few_rules : length s.rules ≤ most_rules
  pub few_joins : length s.joins ≤ most_joins
  pub few_leaves : length s.leaves ≤ most_leaves
  pub few_restarts : length s.restarts ≤ most_restarts
  pub few_of_node : (node : ℕ) → count_by (is_ask_of_node node) s.restarts ≤ most_restarts_of_node
  pub places : HaveDistinctPlaces s.rules
