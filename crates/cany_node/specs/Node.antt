-- What a contract sees of a node, and what a turn does.
use Rattle.std.specs.Prelude.{◌≡◌, ◌+◌, ◌<◌, ◌≤◌, ◌==◌, ◌&&◌, ◌||◌, ℕ, not, nat_lt, if◌then◌else◌, List, [], ◌∷◌, length, drop, replicate, slice_get, count_by, Option, Some, None}
use Rattle.cany_base.specs.declared.actions.Action.{Action}
use Rattle.cany_base.specs.declared.log_entry.LogEntry.{LogEntry}
use Rattle.cany_base.specs.declared.notice.Notice.{Notice}
use Rattle.cany_base.specs.declared.notice.NoticeKind.{NoticeKind}
use Rattle.cany_base.specs.declared.notice.NoticeKind.TheVariants.{Idle}
use Rattle.cany_base.specs.Bounded.{Bounded}
use Rattle.cany_base.specs.Params.{Parameters}
use Rattle.cany_base.specs.Scenario.{ScenarioParts, IsLegalScenario}
use Rattle.cany_model.specs.Rules.Backlog.{asked, backlog}
use Rattle.cany_model.specs.Rules.Effect.{Effect, waiting_after}
use Rattle.cany_model.specs.Rules.Log.{log_from}
use Rattle.cany_model.specs.Rules.Notices.{HasFewSigns, IsNextNotice, IsReadable, IsReadableVector, error_as_idle, is_early}
use Rattle.cany_model.specs.Rules.Rooms.{waiting_room, actions_room, log_room}
use Rattle.cany_model.specs.Rules.KnowledgeOf.{knowledge_of}
use Rattle.cany_model.specs.Rules.Turn.{turn_effects}
use Rattle.can_controller.specs.Controller.{ControllerState}
use Rattle.cany_edcan.specs.Edcan.{EdcanParts, IsEdcanOf}
use Rattle.cany_relcan.specs.Relcan.{RelcanParts, IsRelcanOf}
use Rattle.cany_totcan.specs.Totcan.{TotcanParts, IsTotcanOf}
use Rattle.cany_node.specs.declared.reply.TurnReply.{TurnReply}
use Rattle.cany_node.specs.declared.reply.TurnReply.TheVariants.{Turned, NothingYet, Stopped}
use Rattle.cany_node.specs.Agenda.{AgendaParts, IsAgendaOf, IsPlanOf}
use Rattle.cany_node.specs.Apply.{AreAskable, is_sign}
use Rattle.cany_node.specs.Asks.{AreAsksOf, IsAskPlanOf}
use Rattle.cany_node.specs.Membership.{IsNextOf, IsMembershipAtRest, IsMembershipOf, MembershipParts}
use Rattle.cany_node.specs.Stamping.{AreStamped}

-- its number, the number of its incarnation, the parameters, and the first slot and the first
-- membership cycle in which this one takes part; its log and how much the log can hold, how many
-- notices it has read, the parts that its protocols keep, and its scripted sends and asks that are
-- still to come
pub record NodeParts : Type 0 where
  pub node : ℕ
  pub inc : ℕ
  pub params : Parameters
  pub from : ℕ
  pub cycle : ℕ
  pub log : List LogEntry
  pub room : ℕ
  pub read : ℕ
  pub edcan : EdcanParts
  pub relcan : RelcanParts
  pub totcan : TotcanParts
  pub membership : MembershipParts
  pub agenda : AgendaParts
  pub joins : List ℕ
  pub leaves : List ℕ

-- What an incarnation hears of a slot: nothing before the first in which it takes part, and nothing
-- of a vector of a membership cycle before the first in which it does. The one of the opening takes
-- part in all. An error is heard as an idle slot: whether the slot of an error carried such a
-- vector does not show in the notice.
abbrev pub heard : ℕ → ℕ → ℕ → ℕ → NoticeKind → NoticeKind
heard inc from cycle slot kind = if not (inc == 0) && (nat_lt slot from || is_early cycle kind) then Idle else error_as_idle kind

-- the notice as the node hears it
abbrev pub heard_by : NodeParts → Notice → Notice
heard_by v notice = record { slot = notice.slot; kind = heard v.inc v.from v.cycle notice.slot notice.kind }

-- each notice that was heard belongs to the scenario
abbrev pub AreReadable : ScenarioParts → List NoticeKind → Type 0
AreReadable scenario [] = Unit {0}
AreReadable scenario (kind ∷ past) = IsReadable scenario (length past) kind × AreReadable scenario past

-- the node stands for what it has heard, newest first, in the scenario as its incarnation follows
-- it
pub record IsNodeOf (scenario : ScenarioParts) (past : List NoticeKind) (v : NodeParts) : Type 0 where
  pub legal : IsLegalScenario scenario
  pub inc : v.inc ≡ scenario.inc
  pub from : v.from ≡ scenario.from
  pub log : v.log ≡ log_from scenario v.node past
  pub room : v.room ≡ log_room scenario
  pub read : v.read ≡ length past
  pub readable : AreReadable scenario past
  pub edcan : IsEdcanOf scenario v.node past v.edcan
  pub relcan : IsRelcanOf scenario v.node past v.relcan
  pub totcan : IsTotcanOf scenario v.node past (backlog scenario v.node past) (asked scenario v.node past) v.totcan
  pub membership : IsMembershipOf scenario v.node past v.membership
  pub agenda : IsAgendaOf scenario v.node (length past) v.agenda
  pub joins : AreAsksOf scenario v.node (length past) scenario.joins v.joins
  pub leaves : AreAsksOf scenario v.node (length past) scenario.leaves v.leaves
  pub room_to_give : length v.totcan.backlog.given + length v.agenda.left ≤ v.totcan.backlog.room

-- The node was built for a run of the scenario and has made no turn. It stands for nothing yet: its
-- protocols are as they are after any number of idle slots.
pub record IsWaiting (scenario : ScenarioParts) (v : NodeParts) : Type 0 where
  pub legal : IsLegalScenario scenario
  pub params : v.params ≡ scenario.params
  pub log : v.log ≡ []
  pub room : v.room ≡ log_room scenario
  pub edcan : (n : ℕ) → IsEdcanOf scenario v.node (replicate n Idle) v.edcan
  pub relcan : (n : ℕ) → IsRelcanOf scenario v.node (replicate n Idle) v.relcan
  pub totcan : (n : ℕ) → IsTotcanOf scenario v.node (replicate n Idle) [] 0 v.totcan
  pub membership : IsMembershipAtRest scenario v.node v.membership
  pub agenda : IsPlanOf scenario v.node v.agenda
  pub joins : IsAskPlanOf v.node scenario.joins v.joins
  pub leaves : IsAskPlanOf v.node scenario.leaves v.leaves
  pub room_to_give : length v.totcan.backlog.given + length v.agenda.left ≤ v.totcan.backlog.room

-- the node can begin as an incarnation after a restart at the end of this slot
pub record CanBegin (v : NodeParts) (restart : ℕ) : Type 0 where
  pub scenario : ScenarioParts
  pub waits : IsWaiting scenario v
  pub later : 0 < v.inc
  pub within : restart < scenario.params.slots

-- a turn can be made: the controller is that of the node in a run of the scenario, and continues
-- what the node has read
pub record CanTurn (v : NodeParts) (ctl : ControllerState) (out : Bounded Action) : Type 0 where
  pub scenario : ScenarioParts
  pub past : List NoticeKind
  pub legal : IsLegalScenario scenario
  pub stands : IsNodeOf scenario past v
  pub node : ctl.node ≡ v.node
  pub params : ctl.params ≡ scenario.params
  pub room : ctl.room ≡ waiting_room scenario
  pub askable : ctl.stopped ≡ None → AreAskable scenario v.node ctl.waiting
  pub stamped : ctl.stopped ≡ None → AreStamped v.inc ctl.waiting
  pub signs : ctl.stopped ≡ None → count_by is_sign ctl.waiting ≤ 2
  pub next : (notice : Notice) → slice_get ctl.unread 0 ≡ Some notice → IsNextNotice scenario past (heard_by v notice)
  pub few : ctl.stopped ≡ None → (notice : Notice) → slice_get ctl.unread 0 ≡ Some notice → HasFewSigns scenario v.node ((heard_by v notice).kind ∷ past) notice.slot
  pub vector : ctl.stopped ≡ None → (notice : Notice) → slice_get ctl.unread 0 ≡ Some notice
      → IsReadableVector scenario.params v.node notice.slot (knowledge_of scenario v.node past).vector (heard_by v notice).kind
  pub read : ctl.read ≡ length past
  pub free : out.items ≡ []
  pub actions : out.room ≡ actions_room scenario

-- the same while the notice is read, as it is heard: what it leads to can be done
pub record CanAct (v : NodeParts) (notice : Notice) (ctl : ControllerState) (out : Bounded Action) : Type 0 where
  pub scenario : ScenarioParts
  pub past : List NoticeKind
  pub stands : IsNodeOf scenario past v
  pub next : IsNextOf scenario v.node past notice
  pub format : ctl.params.format ≡ scenario.params.format
  pub room : ctl.room ≡ waiting_room scenario
  pub askable : AreAskable scenario v.node ctl.waiting
  pub stamped : AreStamped v.inc ctl.waiting
  pub signs : count_by is_sign ctl.waiting ≤ 2
  pub free : out.items ≡ []
  pub actions : out.room ≡ actions_room scenario

abbrev pub reply_at : ℕ → Option Notice → Option ℕ → TurnReply
reply_at read unread (Some slot) = Stopped slot
reply_at read (Some notice) None = Turned notice.slot
reply_at read None None = NothingYet read

-- the answer of a turn
abbrev pub reply_of : ControllerState → TurnReply
reply_of ctl = reply_at ctl.read (slice_get ctl.unread 0) ctl.stopped

-- the node reads this notice next, after what it stands for, and can hear it: of its own life signs
-- there are not too many with it, and its vector can be read
pub record Reads (scenario : ScenarioParts) (past : List NoticeKind) (notice : Notice) (v : NodeParts) (ctl : ControllerState) : Type 0 where
  pub stands : IsNodeOf scenario past v
  pub next : IsNextNotice scenario past (heard_by v notice)
  pub few : HasFewSigns scenario v.node ((heard_by v notice).kind ∷ past) notice.slot
  pub vector : IsReadableVector scenario.params v.node notice.slot (knowledge_of scenario v.node past).vector (heard_by v notice).kind
  pub running : ctl.stopped ≡ None
  pub oldest : slice_get ctl.unread 0 ≡ Some notice

-- the controller after a turn with these effects
abbrev pub turned : List Effect → ControllerState → ControllerState
turned effects ctl = record ctl {
  unread = drop 1 ctl.unread;
  read = ctl.read + 1;
  waiting = waiting_after effects ctl.waiting;
}

-- the node has read the notice: it stands for what it heard, and its controller waits with what the
-- rules say
pub record IsTurnOf (scenario : ScenarioParts) (past : List NoticeKind) (notice : Notice) (v v' : NodeParts) (ctl ctl' : ControllerState) : Type 0 where
  pub controller : ctl' ≡ turned (turn_effects scenario v.node ((heard_by v notice).kind ∷ past)) ctl
  pub stands : IsNodeOf scenario ((heard_by v notice).kind ∷ past) v'

-- a node that has stopped, or has nothing to read, stays as it is
abbrev pub IsRefused : TurnReply → NodeParts → NodeParts → ControllerState → ControllerState → Type 0
IsRefused (Turned slot) v v' ctl ctl' = Unit {0}
IsRefused (NothingYet now) v v' ctl ctl' = (v' ≡ v) × (ctl' ≡ ctl)
IsRefused (Stopped slot) v v' ctl ctl' = (v' ≡ v) × (ctl' ≡ ctl)
