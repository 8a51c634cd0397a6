-- What a node keeps of the site: life signs and failure signs, the exchange of vectors, and the
-- view.
use Rattle.std.specs.Prelude.{◌≡◌, ℕ, ◌+◌, ◌*◌, ◌<◌, ◌≤◌, Bool, false, [], ◌∷◌, ◌++◌, List, length, Option, None, IfSome, option_map, replicate}
use Rattle.cany_base.specs.Bounded.{Bounded}
use Rattle.cany_base.specs.declared.actions.Action.{Action}
use Rattle.cany_base.specs.declared.notice.Notice.{Notice}
use Rattle.cany_base.specs.declared.notice.NoticeKind.{NoticeKind}
use Rattle.cany_base.specs.declared.notice.NoticeKind.TheVariants.{Idle, Got, Sent, Bad}
use Rattle.cany_base.specs.Nodes.{AllBelow, Nodes}
use Rattle.cany_base.specs.Params.{Parameters}
use Rattle.cany_base.specs.Scenario.{ScenarioParts}
use Rattle.can_frame.specs.Classes.{is_of_site}
use Rattle.cany_model.specs.Rules.Actions.{actions_of}
use Rattle.cany_model.specs.Rules.Effect.{TurnRule}
use Rattle.cany_model.specs.Rules.Life.{failure_effects, life_sign, life_signs_sent}
use Rattle.cany_model.specs.Rules.Membership.{install_effects}
use Rattle.cany_model.specs.Rules.Notices.{HasFewSigns, IsNextNotice, IsReadableVector}
use Rattle.cany_model.specs.Rules.KnowledgeOf.{after_meeting, start_in, knowledge_of}
use Rattle.cany_model.specs.Rules.Knowledge.{Knowledge, knowledge_at_first}
use Rattle.cany_model.specs.Rules.Vectors.{exchange_at}
use Rattle.cany_base.specs.Cycles.{cycle_of}
use Rattle.cany_history.specs.declared.ended.Ended.{Ended}
use Rattle.cany_history.specs.History.{HistoryParts, IsHistoryOf}
use Rattle.cany_life.specs.Life.{IsLifeOf, LifeParts}
use Rattle.cany_views.specs.Views.{IsViewsOf, ViewsParts}

pub record MembershipParts : Type 0 where
  pub params : Parameters
  pub life : LifeParts
  pub history : HistoryParts
  pub views : ViewsParts

-- the value is that of node i after these notices, newest first: only nodes of the bus have failed
pub record IsMembershipOf (scenario : ScenarioParts) (i : ℕ) (past : List NoticeKind) (v : MembershipParts) : Type 0 where
  pub params : v.params ≡ scenario.params
  pub failed : AllBelow scenario.params.nodes (knowledge_of scenario i past).failed
  pub life : IsLifeOf scenario i past (knowledge_of scenario i past) v.life
  pub history : IsHistoryOf scenario i past (knowledge_of scenario i past).vector v.history
  pub views : IsViewsOf scenario i (knowledge_of scenario i past) v.views

-- that of a node which has read nothing, or only notices of idle slots, whoever its members are
pub record IsMembershipAtRest (scenario : ScenarioParts) (i : ℕ) (v : MembershipParts) : Type 0 where
  pub params : v.params ≡ scenario.params
  pub life : (n : ℕ) (members : Nodes) → IsLifeOf scenario i (replicate n Idle) (knowledge_at_first members) v.life
  pub history : (n : ℕ) → IsHistoryOf scenario i (replicate n Idle) None v.history
  pub views : IsViewsOf scenario i (knowledge_at_first scenario.members) v.views

-- The notice can be the next that node i hears after these: it comes next, of the node's own life
-- signs there are not too many with it, and its vector can be read.
pub record IsNextOf (scenario : ScenarioParts) (i : ℕ) (past : List NoticeKind) (notice : Notice) : Type 0 where
  pub next : IsNextNotice scenario past notice
  pub few : HasFewSigns scenario i (notice.kind ∷ past) notice.slot
  pub vector : IsReadableVector scenario.params i notice.slot (knowledge_of scenario i past).vector notice.kind

-- ---- what tells of the site

-- whether the notice tells of it: frames of TOTCAN's data do, since they show that their node lives
abbrev pub tells_of_site : NoticeKind → Bool
tells_of_site Idle = false
tells_of_site (Got f) = is_of_site f.class
tells_of_site (Sent f) = is_of_site f.class
tells_of_site Bad = false

-- ---- in the middle of a turn

-- there is a scenario, and what node i has heard in it, that the value stands for, and this notice
-- can come next
pub record CanHear (v : MembershipParts) (notice : Notice) : Type 0 where
  pub scenario : ScenarioParts
  pub node : ℕ
  pub past : List NoticeKind
  pub stands : IsMembershipOf scenario node past v
  pub next : IsNextOf scenario node past notice

-- parameters, life and views are those of node i where it knows this
pub record KnowsOf (scenario : ScenarioParts) (i : ℕ) (past : List NoticeKind) (knowledge : Knowledge) (v : MembershipParts) : Type 0 where
  pub params : v.params ≡ scenario.params
  pub failed : AllBelow scenario.params.nodes knowledge.failed
  pub life : IsLifeOf scenario i past knowledge v.life
  pub views : IsViewsOf scenario i knowledge v.views

-- the vector with which a cycle ends in the slot, as the code has it
abbrev pub ended_as : Parameters → ℕ → Option Nodes → Option Ended
ended_as p slot vector = option_map (λ v. record { cycle = cycle_of p slot; vector = v }) vector

-- what the node knows once it has heard the notice, and met its vector with the one that the notice
-- brings
abbrev pub met_by : ScenarioParts → ℕ → Notice → List NoticeKind → Knowledge
met_by scenario i notice past = after_meeting scenario.params i (length past) notice.kind (knowledge_of scenario i past)

-- Life and views know what the notice tells, and nothing of its vector yet: that is exchanged next.
pub record Exchanges (scenario : ScenarioParts) (i : ℕ) (past : List NoticeKind) (notice : Notice) (v : MembershipParts) : Type 0 where
  pub knows : KnowsOf scenario i (notice.kind ∷ past) (met_by scenario i notice past) v
  pub history : IsHistoryOf scenario i past (knowledge_of scenario i past).vector v.history
  pub next : IsNextOf scenario i past notice

pub record CanExchange (v : MembershipParts) (notice : Notice) : Type 0 where
  pub scenario : ScenarioParts
  pub node : ℕ
  pub past : List NoticeKind
  pub exchanges : Exchanges scenario node past notice v

-- the vector with which a cycle ended has only nodes of the bus
abbrev pub IsOfBus : Parameters → Option Ended → Type 0
IsOfBus p ended = IfSome ended (λ e. AllBelow p.nodes e.vector)

-- the value stands for what a node knows after the turn of the slot has begun
pub record HasKnown (v : MembershipParts) (slot : ℕ) : Type 0 where
  pub scenario : ScenarioParts
  pub node : ℕ
  pub past : List NoticeKind
  pub knowledge : Knowledge
  pub knows : KnowsOf scenario node past knowledge v
  pub within : slot < scenario.params.slots
  pub newest : length past ≡ slot + 1

-- ---- what a turn does, without incarnations

-- the exchange of vectors, where the frames tell no incarnation
abbrev pub exchange_plain : TurnRule
exchange_plain scenario i [] = []
exchange_plain scenario i (notice ∷ before) =
    exchange_at scenario.params 0 i notice before (knowledge_of scenario i before).vector
    (start_in scenario.params i (length before) notice (knowledge_of scenario i before))

-- the next life sign, likewise
abbrev pub life_plain : TurnRule
life_plain scenario i [] = []
life_plain scenario i (notice ∷ before) =
    life_sign scenario.params.life 0 i (length before) (knowledge_of scenario i (notice ∷ before)) (life_signs_sent i (notice ∷ before))

-- all that is done for the site
abbrev pub membership_effects : TurnRule
membership_effects scenario i past =
    failure_effects scenario i past ++ (exchange_plain scenario i past ++ (install_effects scenario i past ++ life_plain scenario i past))

-- the most actions of it
abbrev pub membership_room : MembershipParts → ℕ
membership_room v = 2 * v.life.params.nodes + length v.views.joins + length v.views.leaves + 8

-- What is done for the site at a notice, what the value stands for then, and that there is no more
-- of it than there may be.
pub record IsFollowed (old new : MembershipParts) (notice : Notice) (before after : Bounded Action) : Type 0 where
  pub actions : (scenario : ScenarioParts) (i : ℕ) (past : List NoticeKind) → IsMembershipOf scenario i past old → IsNextOf scenario i past notice
      → after.items ≡ before.items ++ actions_of scenario.params.format (membership_effects scenario i (notice.kind ∷ past))
  pub stands : (scenario : ScenarioParts) (i : ℕ) (past : List NoticeKind) → IsMembershipOf scenario i past old → IsNextOf scenario i past notice
      → IsMembershipOf scenario i (notice.kind ∷ past) new
  pub few : length after.items ≤ length before.items + membership_room old
  pub room : after.room ≡ before.room
