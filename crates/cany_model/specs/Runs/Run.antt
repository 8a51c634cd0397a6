-- Steps, and the run of a journal.
use Rattle.std.specs.Prelude.{ℕ, ◌+◌, ◌-◌, ◌==◌, ◌&&◌, ◌||◌, Bool, true, false, not, nat_lt, nat_le, if◌then◌else◌, List, [], ◌∷◌, Option, Some, None, slice_set, IsTrue}
use Rattle.std.specs.List.{list_all}
use Rattle.cany_base.specs.declared.step.Step.{Step}
use Rattle.cany_base.specs.declared.step.Step.TheVariants as step
use Rattle.cany_base.specs.Scenario.{ScenarioParts}
use Rattle.cany_model.specs.declared.reply.StepReply.{StepReply}
use Rattle.cany_model.specs.declared.reply.StepReply.TheVariants.{Done, Lagging, Over, NothingYet, Stopped, NoNode}
use Rattle.cany_model.specs.Rules.Effect.{waiting_after}
use Rattle.cany_model.specs.Bus.History.{history}
use Rattle.cany_model.specs.Bus.Restart.{after_restarts}
use Rattle.cany_model.specs.Bus.Slot.{after_slot, script}
use Rattle.cany_model.specs.Bus.State.{NodeState, RunState, opening, node_at, runs, slots_run, reads}
use Rattle.cany_model.specs.Rules.Turn.{effects_for}

-- the least running node with more than lag unread notices, and their number
unfoldable pub first_lagging : ℕ → ℕ → List NodeState → Option (ℕ × ℕ)
first_lagging lag i [] = None
first_lagging lag i (node ∷ nodes) =
    if runs node && nat_lt lag node.unread then Some (i, node.unread) else first_lagging lag (i + 1) nodes

abbrev pub lagging_reply : Option (ℕ × ℕ) → StepReply
lagging_reply None = Done
lagging_reply (Some found) = Lagging found.0 found.1

abbrev pub slot_reply : ScenarioParts → RunState → StepReply
slot_reply scenario s =
    if nat_le scenario.params.slots (slots_run s) then Over scenario.params.slots
    else lagging_reply (first_lagging scenario.params.lag 0 s.nodes)

abbrev pub stop_reply : Option ℕ → StepReply → StepReply
stop_reply (Some slot) otherwise = Stopped slot
stop_reply None otherwise = otherwise

abbrev pub turn_reply : ScenarioParts → ℕ → RunState → StepReply
turn_reply scenario i s =
    if nat_le scenario.params.nodes i then NoNode i
    else stop_reply (node_at s.nodes i).stopped (if (node_at s.nodes i).unread == 0 then NothingYet (reads s i) else Done)

unfoldable pub reply : ScenarioParts → RunState → Step → StepReply
reply scenario s step.Slot = slot_reply scenario s
reply scenario s (step.Turn i) = turn_reply scenario i s

-- the node's state with one notice fewer unread
abbrev pub after_reading : ℕ → RunState → RunState
after_reading i s = record s { nodes = slice_set s.nodes i (record (node_at s.nodes i) { unread = (node_at s.nodes i).unread - 1 }) }

abbrev pub with_waiting : ℕ → RunState → NodeState → RunState
with_waiting i s node = record s { nodes = slice_set s.nodes i node }

-- node i reads its oldest unread notice, and its waiting frames change as the rules say
unfoldable pub after_turn : ScenarioParts → ℕ → RunState → RunState
after_turn scenario i s =
    let read = after_reading i s in
    let node = node_at read.nodes i in
    let effects = effects_for node.present.number scenario node.present i (history i read) in
    with_waiting i read (record node { waiting = waiting_after effects node.waiting })

unfoldable pub proceed : ScenarioParts → RunState → Step → RunState
proceed scenario s step.Slot = after_restarts scenario (after_slot (script scenario.rules) s)
proceed scenario s (step.Turn i) = after_turn scenario i s

abbrev pub is_done : StepReply → Bool
is_done Done = true
is_done (Lagging node unread) = false
is_done (Over slots) = false
is_done (NothingYet now) = false
is_done (Stopped slot) = false
is_done (NoNode node) = false

-- a refused step changes nothing
unfoldable pub after_step : ScenarioParts → RunState → Step → RunState
after_step scenario s step = if is_done (reply scenario s step) then proceed scenario s step else s

unfoldable pub run_from : ScenarioParts → RunState → List Step → RunState
run_from scenario s [] = s
run_from scenario s (step ∷ journal) = run_from scenario (after_step scenario s step) journal

abbrev pub run : ScenarioParts → List Step → RunState
run scenario journal = run_from scenario (opening scenario.params.nodes) journal

-- whether the step, made in this state, runs slot t
abbrev pub runs_slot : ScenarioParts → ℕ → RunState → Step → Bool
runs_slot scenario t s step.Slot = is_done (reply scenario s step.Slot) && slots_run s == t
runs_slot scenario t s (step.Turn i) = false

unfoldable pub slot_state_from : ScenarioParts → ℕ → RunState → List Step → Option RunState
slot_state_from scenario t s [] = None
slot_state_from scenario t s (step ∷ journal) =
    if runs_slot scenario t s step then Some s else slot_state_from scenario t (after_step scenario s step) journal

-- the state in which slot t is run, where the journal runs it
abbrev pub slot_state : ScenarioParts → ℕ → List Step → Option RunState
slot_state scenario t journal = slot_state_from scenario t (opening scenario.params.nodes) journal

unfoldable pub is_legal_from : ScenarioParts → RunState → List Step → Bool
is_legal_from scenario s [] = true
is_legal_from scenario s (step ∷ journal) =
    is_done (reply scenario s step) && is_legal_from scenario (after_step scenario s step) journal

-- each step is done
abbrev pub IsLegal : ScenarioParts → List Step → Type 0
IsLegal scenario journal = IsTrue (is_legal_from scenario (opening scenario.params.nodes) journal)

-- every running node has read every notice
abbrev pub all_read : RunState → Bool
all_read s = list_all (λ node. not (runs node) || node.unread == 0) s.nodes

-- all slots ran, and every running node has read every notice
abbrev pub has_ended : ScenarioParts → RunState → Bool
has_ended scenario s = nat_le scenario.params.slots (slots_run s) && all_read s

abbrev pub IsWhole : ScenarioParts → List Step → Type 0
IsWhole scenario journal = IsTrue (has_ended scenario (run scenario journal))
