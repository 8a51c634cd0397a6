-- Restarts: at the end of a slot, after the stops, each stopped node of a restart entry of the slot
-- starts again.
use Rattle.std.specs.Prelude.{ℕ, ◌+◌, ◌-◌, ◌/◌, ◌==◌, ◌&&◌, ◌||◌, Bool, not, if◌then◌else◌, List, [], ◌∷◌}
use Rattle.std.specs.List.{list_any}
use Rattle.cany_base.specs.declared.message.NodeAsk.{NodeAsk}
use Rattle.cany_base.specs.Nodes.{Nodes, those_where}
use Rattle.cany_base.specs.Params.{Parameters}
use Rattle.cany_base.specs.Scenario.{ScenarioParts}
use Rattle.cany_model.specs.Bus.State.{Incarnation, EndedIncarnation, NodeState, RunState, fresh, node_at, runs, slots_run}

abbrev pub is_restart : ℕ → ℕ → NodeAsk → Bool
is_restart slot i ask = ask.slot == slot && ask.node == i

-- whether an entry of the slot names node i: two that do make one restart
unfoldable pub names_restart : List NodeAsk → ℕ → ℕ → Bool
names_restart restarts slot i = list_any (is_restart slot i) restarts

-- the first membership cycle that does not start before the slot
abbrev pub first_cycle : Parameters → ℕ → ℕ
first_cycle p slot = (slot + (p.cycle - 1)) / p.cycle

-- The incarnation that begins at the end of a slot. It takes part only so much later that no window
-- of bound + lag slots has frames sent by two incarnations of a node.
abbrev pub next_incarnation : Parameters → ℕ → Incarnation → Incarnation
next_incarnation p slot inc = record {
  number = inc.number + 1;
  since = slot + 1;
  from = slot + 1 + (p.bound + p.lag);
  cycle = first_cycle p (slot + 1 + (p.bound + p.lag));
}

-- the incarnation of a node that ends when the slot does
abbrev pub ended_at : ℕ → NodeState → EndedIncarnation
ended_at slot node = record { incarnation = node.present; next = slot + 1 - node.unread; stopped = node.stopped }

-- the node after its restart at the end of a slot: nothing waits, nothing is unread, its counters
-- are zero, and it runs
abbrev pub restarted : Parameters → ℕ → NodeState → NodeState
restarted p slot node =
    record fresh { present = next_incarnation p slot node.present; ended = ended_at slot node ∷ node.ended }

-- for a node that runs an entry does nothing
unfoldable pub after_entries : ScenarioParts → ℕ → ℕ → NodeState → NodeState
after_entries scenario slot i node =
    if not (runs node) && names_restart scenario.restarts slot i then restarted scenario.params slot node else node

unfoldable pub nodes_after_entries : ScenarioParts → ℕ → ℕ → List NodeState → List NodeState
nodes_after_entries scenario slot i [] = []
nodes_after_entries scenario slot i (node ∷ nodes) = after_entries scenario slot i node ∷ nodes_after_entries scenario slot (i + 1) nodes

-- the last step of the slot that ran last
unfoldable pub after_restarts : ScenarioParts → RunState → RunState
after_restarts scenario s = record s { nodes = nodes_after_entries scenario (slots_run s - 1) 0 s.nodes }

-- ---- what is asked of it

abbrev pub began_at : ℕ → Incarnation → Bool
began_at slot inc = not (inc.number == 0) && inc.since == slot + 1

-- the nodes that started again at the end of a slot
unfoldable pub restarted_in : RunState → ℕ → Nodes
restarted_in s slot =
    those_where (λ i. let node = node_at s.nodes i in began_at slot node.present || list_any (λ e. began_at slot e.incarnation) node.ended)
