-- A stretch of idle slots: when no node has anything to do before the last one, and what the
-- program makes of its controllers and nodes then.
use Rattle.std.specs.Prelude.{◌≡◌, ℕ, zero, suc, ◌+◌, ◌-◌, ◌^◌, ◌<◌, ◌≤◌, Bool, true, false, is_none, if◌then◌else◌, List, [], ◌∷◌, ◌++◌, Option, Some, None, length, filter, map, slice_get, slice_set}
use Rattle.std.specs.List.{range_with_len}
use Rattle.std.specs.Option.{option_map_or}
use Rattle.cany_base.specs.declared.actions.Action.{Action}
use Rattle.cany_base.specs.declared.notice.Notice.{Notice}
use Rattle.cany_base.specs.declared.notice.NoticeKind.{NoticeKind}
use Rattle.cany_base.specs.declared.step.Step.{Step}
use Rattle.cany_base.specs.declared.step.Step.TheVariants.{Slot, Turn}
use Rattle.cany_base.specs.Bounded.{Bounded}
use Rattle.cany_base.specs.Limits.{most_nodes}
use Rattle.cany_base.specs.Nodes.{Nodes, has}
use Rattle.cany_base.specs.Scenario.{ScenarioParts}
use Rattle.cany_model.specs.declared.share.Share.TheVariants.{Idle}
use Rattle.cany_model.specs.Bus.Restart.{names_restart}
use Rattle.cany_model.specs.Bus.Slot.{exceeds, slot_rule}
use Rattle.cany_model.specs.Bus.State.{RunState, slots_run}
use Rattle.can_bus.specs.Bus.{BusParts}
use Rattle.can_controller.specs.Controller.{ControllerState, node_state, seen}
use Rattle.cany_node.specs.Node.{NodeParts, Reads}
use Rattle.cany_node.specs.Resting.{RestsUntil}
use Rattle.cany_world.specs.Incarnations.{IncarnationsParts, CanTurnNow, HasTurned}

-- no rule is that of the slot, and no restart entry
pub record IsFree (scenario : ScenarioParts) (slot : ℕ) : Type 0 where
  pub rules : slot_rule scenario.rules slot ≡ None
  pub restarts : (i : ℕ) → names_restart scenario.restarts slot i ≡ false

-- So many slots are left, of which the script says nothing.
pub record IsOpen (scenario : ScenarioParts) (s : RunState) (slots : ℕ) : Type 0 where
  pub room : slots_run s + slots ≤ scenario.params.slots
  pub free : (slot : ℕ) → slots_run s ≤ slot → slot < slots_run s + slots → IsFree scenario slot

-- ---- what the program keeps of it

-- of so many slots a node that is due passes all but the last one, and any other all
abbrev pub passes : ℕ → Nodes → ℕ → ℕ
passes slots due i = if has due i then slots - 1 else slots

-- a controller waits with nothing and its node has read all, if it runs
pub record IsAtRest (c : ControllerState) : Type 0 where
  pub waiting : c.waiting ≡ []
  pub unread : c.unread ≡ []

abbrev pub HasNothingToDoIfItRuns : ControllerState → Type 0
HasNothingToDoIfItRuns c = c.stopped ≡ None → IsAtRest c

-- so it is with all controllers
abbrev pub HaveNothingToDo : List ControllerState → Type 0
HaveNothingToDo controllers = (i : ℕ) (c : ControllerState) → slice_get controllers i ≡ Some c → HasNothingToDoIfItRuns c

-- the present incarnation has nothing to do in the idle slots before this one
abbrev pub IncarnationRests : ℕ → IncarnationsParts → Type 0
IncarnationRests end v = (it : NodeParts) → slice_get v.nodes v.present ≡ Some it → RestsUntil end it

-- a controller and its node wait with nothing and have read all, and in so many idle slots from the
-- next one on they do nothing
pub record IsIdleFor (next slots : ℕ) (c : ControllerState) (v : IncarnationsParts) : Type 0 where
  pub waiting : c.waiting ≡ []
  pub unread : c.unread ≡ []
  pub counters : exceeds (node_state c) ≡ false
  pub node : 0 < slots → IncarnationRests (next + slots) v

-- a node can pass so many slots from the next one on, if it runs
abbrev pub CanPass : ℕ → ℕ → ControllerState → IncarnationsParts → Type 0
CanPass next slots c v = c.stopped ≡ None → IsIdleFor next slots c v

-- each node can, those that are due all but the last one
abbrev pub CanAllPass : ℕ → ℕ → Nodes → List ControllerState → List IncarnationsParts → Type 0
CanAllPass next slots due controllers nodes =
    (i : ℕ) (c : ControllerState) (v : IncarnationsParts) → slice_get controllers i ≡ Some c → slice_get nodes i ≡ Some v
    → CanPass next (passes slots due i) c v

-- the present incarnation has passed so many slots
abbrev pub HasPassed : ℕ → IncarnationsParts → IncarnationsParts → Type 0
HasPassed slots v v' = (it : NodeParts) → slice_get v.nodes v.present ≡ Some it
    → v' ≡ record v { nodes = slice_set v.nodes v.present (record it { read = it.read + slots }) }

-- a controller and its node have
pub record HaveRested (slots : ℕ) (c c' : ControllerState) (v v' : IncarnationsParts) : Type 0 where
  pub controller : c' ≡ record c { read = c.read + slots }
  pub node : HasPassed slots v v'

-- the controller after so many idle slots from the next one on, whose notices were read, and one
-- more, whose notice was not
abbrev pub noticed : ℕ → ℕ → ControllerState → ControllerState
noticed next slots c = seen (next + slots) Idle (record c { read = c.read + slots })

-- a controller and its node have passed all but the last of so many slots, and in the last one the
-- node took its turn
pub record HasTakenTurn (next slots : ℕ) (c c' : ControllerState) (v v' : IncarnationsParts) : Type 0 where
  pub before : IncarnationsParts
  pub passed : HasPassed (slots - 1) v before
  pub turn : (it : NodeParts) → slice_get before.nodes before.present ≡ Some it → (scenario : ScenarioParts) (past : List NoticeKind) (notice : Notice)
      → Reads scenario past notice it (noticed next (slots - 1) c) → HasTurned scenario past notice it before v' (noticed next (slots - 1) c) c'

-- a controller and its node have passed so many slots, if it runs, and the node took its turn in
-- the last one, if it is due
abbrev pub HavePassed : ℕ → ℕ → Option ℕ → Bool → ControllerState → ControllerState → IncarnationsParts → IncarnationsParts → Type 0
HavePassed next slots None true c c' v v' = HasTakenTurn next slots c c' v v'
HavePassed next slots None false c c' v v' = HaveRested slots c c' v v'
HavePassed next slots (Some stop) is_due c c' v v' = (c' ≡ c) × (v' ≡ v)

-- a controller and its node can count so many slots more
pub record CanCount (slots : ℕ) (c : ControllerState) (v : IncarnationsParts) : Type 0 where
  pub controller : c.read + slots < 2 ^ 64
  pub it : NodeParts
  pub at : slice_get v.nodes v.present ≡ Some it
  pub node : it.read + slots < 2 ^ 64

-- a node that runs can take its turn in the last of so many slots, after it passed the others
pub record CanTakeTurn (next slots : ℕ) (c : ControllerState) (v : IncarnationsParts) (actions : Bounded Action) : Type 0 where
  pub running : c.stopped ≡ None
  pub all_read : c.unread ≡ []
  pub turn : (before : IncarnationsParts) → HasPassed (slots - 1) v before → CanTurnNow before (noticed next (slots - 1) c) actions

-- a controller and its node can pass so many slots, and if it is due, take the turn
pub record CanGo (next slots : ℕ) (is_due : Bool) (c : ControllerState) (v : IncarnationsParts) (actions : Bounded Action) : Type 0 where
  pub count : CanCount slots c v
  pub turn : c.stopped ≡ None → is_due ≡ true → CanTakeTurn next slots c v actions

-- all can
pub record CanAllGo (next slots : ℕ) (due : Nodes) (row : List ControllerState) (kept : List IncarnationsParts) (actions : Bounded Action) : Type 0 where
  pub count : length row ≡ length kept
  pub each : (i : ℕ) (c : ControllerState) (v : IncarnationsParts) → slice_get row i ≡ Some c → slice_get kept i ≡ Some v
      → CanGo next slots (has due i) c v actions

-- what stands at the place of a node after the stretch
pub record HavePassedAt (next slots : ℕ) (is_due : Bool) (i : ℕ) (row' : List ControllerState) (kept' : List IncarnationsParts)
    (c : ControllerState) (v : IncarnationsParts) : Type 0 where
  pub after : ControllerState
  pub node : IncarnationsParts
  pub at : slice_get row' i ≡ Some after
  pub node_at : slice_get kept' i ≡ Some node
  pub passed : HavePassed next slots c.stopped is_due c after v node

-- all have passed so many slots, and those that are due took their turns
pub record HaveAllPassed (next slots : ℕ) (due : Nodes) (row row' : List ControllerState) (kept kept' : List IncarnationsParts) : Type 0 where
  pub whole : length row' ≡ length row
  pub nodes : length kept' ≡ length kept
  pub each : (i : ℕ) (c : ControllerState) (v : IncarnationsParts) → slice_get row i ≡ Some c → slice_get kept i ≡ Some v
      → HavePassedAt next slots (has due i) i row' kept' c v

-- these are some slots, for which the bus has room, and all can pass them
pub record CanRest (slots : ℕ) (due : Nodes) (bus : BusParts) (row : List ControllerState) (kept : List IncarnationsParts)
    (actions : Bounded Action) : Type 0 where
  pub some : 0 < slots
  pub room : length bus.trace + slots ≤ bus.params.slots
  pub small : length bus.trace + slots < 2 ^ 64
  pub few : length row ≤ most_nodes
  pub all : CanAllGo (length bus.trace) slots due row kept actions

-- ---- its steps

-- whether the controller of node i runs
abbrev pub runs_at : List ControllerState → ℕ → Bool
runs_at controllers i = option_map_or (λ c. is_none c.stopped) (slice_get controllers i) false

-- the slot, and the turns of the nodes whose controllers run
abbrev pub round_of : List ControllerState → List Step
round_of controllers = Slot ∷ map (λ i. Turn i) (filter (runs_at controllers) (range_with_len 0 (length controllers)))

unfoldable pub rounds_of : ℕ → List ControllerState → List Step
rounds_of zero controllers = []
rounds_of (suc slots) controllers = round_of controllers ++ rounds_of slots controllers
