-- A turn in parts: what the protocols do at the notice, and then what the script asks for. The
-- frames are not stamped with the incarnation yet.
use Rattle.std.specs.Prelude.{◌≡◌, ◌+◌, ◌<◌, ◌≤◌, ℕ, List, [], ◌∷◌, ◌++◌, length}
use Rattle.std.specs.List.{flat_map}
use Rattle.cany_base.specs.declared.actions.Action.{Action}
use Rattle.cany_base.specs.declared.notice.Notice.{Notice}
use Rattle.cany_base.specs.declared.notice.NoticeKind.{NoticeKind}
use Rattle.cany_base.specs.Bounded.{Bounded}
use Rattle.cany_base.specs.Scenario.{ScenarioParts}
use Rattle.can_controller.specs.Controller.{ControllerState}
use Rattle.cany_model.specs.Rules.Backlog.{asked, backlog, backlog_effects}
use Rattle.cany_model.specs.Rules.Edcan.{edcan_effects}
use Rattle.cany_model.specs.Rules.Effect.{TurnRule, waiting_after}
use Rattle.cany_model.specs.Rules.Membership.{asks_in}
use Rattle.cany_model.specs.Rules.Relcan.{relcan_effects}
use Rattle.cany_model.specs.Rules.Sends.{send_effects}
use Rattle.cany_model.specs.Rules.KnowledgeOf.{knowledge_of}
use Rattle.cany_model.specs.Rules.Totcan.{totcan_effects}
use Rattle.cany_model.specs.Rules.Turn.{turn_effects}
use Rattle.cany_model.specs.Rules.Views.{join_asked, leave_asked}
use Rattle.cany_edcan.specs.Edcan.{IsEdcanOf}
use Rattle.cany_relcan.specs.Relcan.{IsRelcanOf}
use Rattle.cany_totcan.specs.Totcan.{IsTotcanOf}
use Rattle.cany_node.specs.Agenda.{IsAgendaOf}
use Rattle.cany_node.specs.Asks.{AreAsksOf}
use Rattle.cany_node.specs.Node.{NodeParts, IsNodeOf}
use Rattle.cany_node.specs.Membership.{IsNextOf, IsMembershipOf, membership_effects, membership_room}

-- what the protocols do at the notice
abbrev pub heard_effects : TurnRule
heard_effects scenario i past =
    edcan_effects scenario i past ++ (relcan_effects scenario i past ++ (totcan_effects scenario i past ++ membership_effects scenario i past))

-- the scripted asks: the joins, and then the leaves
abbrev pub asks_plain : TurnRule
asks_plain scenario i [] = []
asks_plain scenario i (notice ∷ before) =
    flat_map (λ ask. join_asked scenario.params 0 i (length before) (knowledge_of scenario i (notice ∷ before)).members)
    (asks_in scenario i (length before) scenario.joins)
    ++ flat_map (λ ask. leave_asked scenario.params 0 i (length before) (knowledge_of scenario i (notice ∷ before)).members)
    (asks_in scenario i (length before) scenario.leaves)

-- what the script asks for
abbrev pub script_effects : TurnRule
script_effects scenario i past = send_effects scenario i past ++ asks_plain scenario i past

-- all of the turn
abbrev pub plain_effects : TurnRule
plain_effects scenario i past = heard_effects scenario i past ++ (script_effects scenario i past ++ backlog_effects scenario i past)

-- the most actions at the notice, and by the script
abbrev pub heard_room : NodeParts → ℕ
heard_room v = v.totcan.queue.room + membership_room v.membership + 8

abbrev pub script_room : NodeParts → ℕ
script_room v = length v.agenda.left + length v.joins + length v.leaves

-- there is a scenario, and what the node has heard in it, after which this notice comes next
pub record CanHearNext (v : NodeParts) (notice : Notice) : Type 0 where
  pub scenario : ScenarioParts
  pub past : List NoticeKind
  pub stands : IsNodeOf scenario past v
  pub next : IsNextOf scenario v.node past notice

-- the protocols have heard the notice after these, and the script of its slot is still to come
pub record HasHeard (scenario : ScenarioParts) (past : List NoticeKind) (notice : NoticeKind) (v : NodeParts) : Type 0 where
  pub edcan : IsEdcanOf scenario v.node (notice ∷ past) v.edcan
  pub relcan : IsRelcanOf scenario v.node (notice ∷ past) v.relcan
  pub totcan : IsTotcanOf scenario v.node (notice ∷ past) (backlog scenario v.node past) (asked scenario v.node past) v.totcan
  pub membership : IsMembershipOf scenario v.node (notice ∷ past) v.membership
  pub agenda : IsAgendaOf scenario v.node (length past) v.agenda
  pub joins : AreAsksOf scenario v.node (length past) scenario.joins v.joins
  pub leaves : AreAsksOf scenario v.node (length past) scenario.leaves v.leaves
  pub room_to_give : length v.totcan.backlog.given + length v.agenda.left ≤ v.totcan.backlog.room

-- there is a scenario, and what the protocols have heard, so that the script of the slot comes next
pub record CanScript (v : NodeParts) (slot : ℕ) : Type 0 where
  pub scenario : ScenarioParts
  pub past : List NoticeKind
  pub notice : NoticeKind
  pub stands : HasHeard scenario past notice v
  pub now : slot ≡ length past
  pub within : slot < scenario.params.slots

-- the script of the slot is done too, and the backlog may ask for its next message
pub record HasScripted (scenario : ScenarioParts) (past : List NoticeKind) (notice : NoticeKind) (v : NodeParts) : Type 0 where
  pub edcan : IsEdcanOf scenario v.node (notice ∷ past) v.edcan
  pub relcan : IsRelcanOf scenario v.node (notice ∷ past) v.relcan
  pub totcan : IsTotcanOf scenario v.node (notice ∷ past) (backlog scenario v.node (notice ∷ past)) (asked scenario v.node past) v.totcan
  pub membership : IsMembershipOf scenario v.node (notice ∷ past) v.membership
  pub agenda : IsAgendaOf scenario v.node (length past + 1) v.agenda
  pub joins : AreAsksOf scenario v.node (length past + 1) scenario.joins v.joins
  pub leaves : AreAsksOf scenario v.node (length past + 1) scenario.leaves v.leaves
  pub room_to_give : length v.totcan.backlog.given + length v.agenda.left ≤ v.totcan.backlog.room

-- The notice is done, as the node heard it: for each history that the node stood for and that the
-- notice continues, the controller waits with what the rules say of the turn, and the node stands
-- for the notice too. The room for actions is free again.
pub record IsActed (notice : Notice) (v v' : NodeParts) (ctl ctl' : ControllerState) (acts acts' : Bounded Action) : Type 0 where
  pub controller : (scenario : ScenarioParts) (past : List NoticeKind) → IsNodeOf scenario past v → IsNextOf scenario v.node past notice
      → ctl' ≡ record ctl { waiting = waiting_after (turn_effects scenario v.node (notice.kind ∷ past)) ctl.waiting }
  pub stands : (scenario : ScenarioParts) (past : List NoticeKind) → IsNodeOf scenario past v → IsNextOf scenario v.node past notice
      → IsNodeOf scenario (notice.kind ∷ past) v'
  pub node : v'.node ≡ v.node
  pub inc : v'.inc ≡ v.inc
  pub cycle : v'.cycle ≡ v.cycle
  pub out : acts' ≡ acts
