-- What a contract sees of the incarnations of a node, and what a turn and a restart make of them.
use Rattle.std.specs.Prelude.{◌≡◌, ℕ, ◌+◌, ◌-◌, ◌==◌, Bool, if◌then◌else◌, List, [], count_by, replicate, slice_get, slice_set, Option, Some, None, option_map}
use Rattle.cany_base.specs.declared.actions.Action.{Action}
use Rattle.cany_base.specs.declared.notice.Notice.{Notice}
use Rattle.cany_base.specs.declared.notice.NoticeKind.{NoticeKind}
use Rattle.cany_base.specs.declared.notice.NoticeKind.TheVariants.{Idle}
use Rattle.cany_base.specs.Bounded.{Bounded}
use Rattle.cany_base.specs.Scenario.{ScenarioParts, is_ask_of_node}
use Rattle.cany_model.specs.declared.span.Span.{Span}
use Rattle.cany_model.specs.Bus.Restart.{first_cycle}
use Rattle.cany_model.specs.Bus.State.{Incarnation, RunState}
use Rattle.cany_model.specs.Runs.Incarnations.{incarnation_of}
use Rattle.cany_model.specs.Rules.Turn.{scenario_for}
use Rattle.can_controller.specs.Controller.{ControllerState}
use Rattle.cany_node.specs.declared.reply.TurnReply.{TurnReply}
use Rattle.cany_node.specs.declared.reply.TurnReply.TheVariants.{Turned, NothingYet, Stopped}
use Rattle.cany_node.specs.Node.{NodeParts, CanBegin, CanTurn, IsNodeOf, IsTurnOf, IsWaiting}
use Rattle.cany_world.specs.Places.{AreOfNodes}

-- the node as each of its incarnations, by their numbers; the span of each, final for those that
-- have ended; and the number of the present one
pub record IncarnationsParts : Type 0 where
  pub nodes : List NodeParts
  pub spans : List Span
  pub present : ℕ

-- the span of one that stops or not, and has this slot to read next
abbrev pub span_until : Option ℕ → ℕ → Span → Span
span_until stopped next span = record { since = span.since; stopped = stopped; read = next - span.since }

-- of the present one only the first slot is kept: the rest its controller tells
abbrev pub span_in : ControllerState → ℕ → IncarnationsParts → Span → Span
span_in ctl number v span = if number == v.present then span_until ctl.stopped ctl.read span else span

-- ---- a turn

-- the present incarnation can take its turn
pub record CanTurnNow (v : IncarnationsParts) (ctl : ControllerState) (out : Bounded Action) : Type 0 where
  pub it : NodeParts
  pub at : slice_get v.nodes v.present ≡ Some it
  pub can : CanTurn it ctl out

-- the present incarnation, which was this one, took its turn
pub record HasTurned (scenario : ScenarioParts) (past : List NoticeKind) (notice : Notice) (it : NodeParts) (v v' : IncarnationsParts) (ctl ctl' : ControllerState) : Type 0 where
  pub after : NodeParts
  pub is : v' ≡ record v { nodes = slice_set v.nodes v.present after }
  pub number : after.node ≡ it.node
  pub inc : after.inc ≡ it.inc
  pub cycle : after.cycle ≡ it.cycle
  pub turn : IsTurnOf scenario past notice it after ctl ctl'

-- a turn that is refused leaves all as it is
abbrev pub IsLeft : TurnReply → IncarnationsParts → IncarnationsParts → ControllerState → ControllerState → Type 0
IsLeft (Turned slot) v v' ctl ctl' = Unit {0}
IsLeft (NothingYet now) v v' ctl ctl' = (v' ≡ v) × (ctl' ≡ ctl)
IsLeft (Stopped slot) v v' ctl ctl' = (v' ≡ v) × (ctl' ≡ ctl)

-- ---- before the first step

-- the node as the incarnation of this number: that of the opening has begun, a later one waits
pub record IsBuiltAs (scenario : ScenarioParts) (i number : ℕ) (it : NodeParts) : Type 0 where
  pub node : it.node ≡ i
  pub inc : it.inc ≡ number
  pub stands : number ≡ 0 → IsNodeOf scenario [] it
  pub waits : IsWaiting scenario it

-- one of each number below the count
abbrev pub AreBuilt : ScenarioParts → ℕ → ℕ → List NodeParts → Type 0
AreBuilt scenario i count nodes = AreOfNodes (IsBuiltAs scenario i) count nodes

-- the incarnations of node i at the opening
pub record IsFirstOf (scenario : ScenarioParts) (i : ℕ) (v : IncarnationsParts) : Type 0 where
  pub nodes : AreBuilt scenario i (count_by (is_ask_of_node i) scenario.restarts + 1) v.nodes
  pub spans : v.spans ≡ replicate (count_by (is_ask_of_node i) scenario.restarts + 1) (record { since = 0; stopped = None; read = 0 })
  pub present : v.present ≡ 0

-- ---- a restart

-- the next incarnation can begin after a restart at the end of this slot
pub record CanRestart (slot : ℕ) (v : IncarnationsParts) : Type 0 where
  pub it : NodeParts
  pub at : slice_get v.nodes (v.present + 1) ≡ Some it
  pub can : CanBegin it slot

-- the spans after it
abbrev pub spans_after : ℕ → Option ℕ → ℕ → IncarnationsParts → Span → List Span
spans_after slot stopped next v span =
    slice_set (slice_set v.spans v.present (span_until stopped next span)) (v.present + 1) (record { since = slot + 1; stopped = None; read = 0 })

-- the node that waited is after its begin as the next incarnation
pub record IsBegunAs (slot : ℕ) (it after : NodeParts) : Type 0 where
  pub node : after.node ≡ it.node
  pub inc : after.inc ≡ it.inc
  pub stands : (scenario : ScenarioParts) (inc : Incarnation) → inc.number ≡ it.inc → inc.from ≡ slot + 1 + (scenario.params.bound + scenario.params.lag)
      → IsWaiting scenario it → IsNodeOf (scenario_for scenario inc) (replicate (slot + 1) Idle) after
  pub cycle : (scenario : ScenarioParts) → IsWaiting scenario it → after.cycle ≡ first_cycle scenario.params (slot + 1 + (scenario.params.bound + scenario.params.lag))

-- the next incarnation has begun, and the span of the one that ended is final
pub record IsRestarted (slot : ℕ) (stopped : Option ℕ) (next : ℕ) (v v' : IncarnationsParts) : Type 0 where
  pub after : NodeParts
  pub nodes : v'.nodes ≡ slice_set v.nodes (v.present + 1) after
  pub spans : (span : Span) → slice_get v.spans v.present ≡ Some span → v'.spans ≡ spans_after slot stopped next v span
  pub present : v'.present ≡ v.present + 1
  pub begun : (it : NodeParts) → slice_get v.nodes (v.present + 1) ≡ Some it → IsBegunAs slot it after

-- whether the incarnation of this span began with the slot after this one
abbrev pub began_in : ℕ → Span → Bool
began_in slot span = span.since == slot + 1

-- the first slot in which an incarnation of node i takes part
abbrev pub takes_part_since : RunState → ℕ → ℕ → Option ℕ
takes_part_since s i number = option_map (λ e. e.incarnation.from) (incarnation_of s i number)
