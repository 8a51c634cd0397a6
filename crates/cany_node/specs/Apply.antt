-- What becomes of a controller and a log as actions are done.
use Rattle.std.specs.Prelude.{◌≡◌, ◌≤◌, ◌<◌, ◌+◌, ◌^◌, ℕ, Bool, false, List, length, ◌++◌, count_by, map}
use Rattle.std.specs.List.{AllByRecursion}
use Rattle.cany_base.specs.declared.actions.Action.{Action}
use Rattle.cany_base.specs.declared.actions.Action.TheVariants as action
use Rattle.cany_base.specs.declared.class.Class.TheVariants as class
use Rattle.cany_base.specs.declared.format.Format.{Format}
use Rattle.cany_base.specs.declared.log_entry.LogEntry.{LogEntry}
use Rattle.cany_base.specs.Bounded.{Bounded}
use Rattle.cany_base.specs.Frame.{FrameParts}
use Rattle.cany_base.specs.Limits.{most_restarts_of_node}
use Rattle.cany_base.specs.Scenario.{ScenarioParts, IsLegalScenario}
use Rattle.cany_model.specs.Rules.Actions.{actions_of}
use Rattle.cany_model.specs.Rules.Effect.{Effect, Ask, Withdraw, Enter, waiting_after, entered}
use Rattle.cany_model.specs.Bus.Frames.{Identity, bare, identity_of, same_class}
use Rattle.cany_model.specs.Rules.Rooms.{IsAskable, waiting_room}
use Rattle.can_frame.specs.Identifier.{FitsFormat}
use Rattle.can_controller.specs.Controller.{ControllerState}
use Rattle.can_controller.specs.Waiting.{HasRoomFor}
use Rattle.cany_node.specs.Stamping.{AreStamped, stamped_effect}

-- each waiting frame is one that node i may ask for
abbrev pub AreAskable : ScenarioParts → ℕ → List FrameParts → Type 0
AreAskable scenario i waiting = AllByRecursion (λ f. IsAskable scenario i (identity_of f)) waiting

-- whether the frame is a life sign, and whether the effect asks for one
abbrev pub is_sign : FrameParts → Bool
is_sign f = same_class f.class class.Els

abbrev pub asks_sign : Effect → Bool
asks_sign (Ask f) = is_sign f
asks_sign (Withdraw x) = false
asks_sign (Enter entry) = false

-- node i may ask for a frame of this identity, and a node of the bus stands in it
abbrev pub MayName : ScenarioParts → ℕ → Identity → Type 0
MayName scenario i x = IsAskable scenario i x × (x.node < scenario.params.nodes)

-- the effect asks for or withdraws nothing else
abbrev pub NamesAskable : ScenarioParts → ℕ → Effect → Type 0
NamesAskable scenario i (Ask f) = MayName scenario i (identity_of f)
NamesAskable scenario i (Withdraw x) = MayName scenario i x
NamesAskable scenario i (Enter entry) = Unit {0}

-- these effects are done: on the waiting frames, and on the log
pub record AreDone (effects : List Effect) (ctl ctl' : ControllerState) (log log' : Bounded LogEntry) : Type 0 where
  pub controller : ctl' ≡ record ctl { waiting = waiting_after effects ctl.waiting }
  pub entries : log'.items ≡ log.items ++ entered effects
  pub room : log'.room ≡ log.room

-- the same effects, each of which tells the incarnation
abbrev pub all_stamped : ℕ → List Effect → List Effect
all_stamped inc effects = map (stamped_effect inc) effects

-- The actions are done: the effects that they are those of, each of which tells the incarnation.
abbrev pub AreApplied : (inc : ℕ) → List Action → (ctl ctl' : ControllerState) (log log' : Bounded LogEntry) → Type 0
AreApplied inc actions ctl ctl' log log' =
    (scenario : ScenarioParts) (i : ℕ) (effects : List Effect) → IsLegalScenario scenario → ctl.params.format ≡ scenario.params.format
    → actions ≡ actions_of scenario.params.format effects → AllByRecursion (NamesAskable scenario i) effects → AreStamped inc ctl.waiting
    → AreDone (all_stamped inc effects) ctl ctl' log log'

-- The actions are those of effects that an incarnation of node i can do: what they name may be
-- asked for, there is room for all, and what waits tells the incarnation. The life signs that wait
-- and those that are asked for are three at most.
pub record CanApply (inc : ℕ) (actions : List Action) (ctl : ControllerState) (log : Bounded LogEntry) : Type 0 where
  pub scenario : ScenarioParts
  pub node : ℕ
  pub effects : List Effect
  pub legal : IsLegalScenario scenario
  pub number : inc ≤ most_restarts_of_node
  pub format : ctl.params.format ≡ scenario.params.format
  pub are : actions ≡ actions_of scenario.params.format effects
  pub names : AllByRecursion (NamesAskable scenario node) effects
  pub waiting : AreAskable scenario node ctl.waiting
  pub stamped : AreStamped inc ctl.waiting
  pub signs : count_by is_sign ctl.waiting + count_by asks_sign effects ≤ 3
  pub room : ctl.room ≡ waiting_room scenario
  pub entries : length log.items + length (entered effects) ≤ log.room

-- the action of an incarnation can be done now
abbrev pub CanDo : ℕ → Action → ControllerState → Bounded LogEntry → Type 0
CanDo inc (action.Ask f) ctl log = FitsFormat ctl.params.format f × HasRoomFor f ctl.waiting ctl.room
CanDo inc (action.Withdraw ident) ctl log = ident + inc < 2 ^ 32
CanDo inc (action.Enter entry) ctl log = length log.items < log.room

-- what the effect withdraws has an identifier
abbrev pub WithdrawsFitting : Format → Effect → Type 0
WithdrawsFitting format (Ask f) = Unit {0}
WithdrawsFitting format (Withdraw x) = FitsFormat format (bare x)
WithdrawsFitting format (Enter entry) = Unit {0}
