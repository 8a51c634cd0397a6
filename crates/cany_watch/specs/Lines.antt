-- The line of a node, which is what is published of it.
use Rattle.std.specs.Prelude.{◌≡◌, ◌≢◌, ℕ, suc, ◌<◌, List, Option, Some, IfSome}
use Rattle.std.specs.List.{flat_map, range_with_len}
use mathlib.Core.List.{IsPrefix}
use Rattle.cany_base.specs.declared.log_entry.LogEntry.{LogEntry}
use Rattle.cany_base.specs.Scenario.{ScenarioParts}
use Rattle.cany_model.specs.Bus.State.{RunState, node_at}
use Rattle.cany_model.specs.Runs.Incarnations.{log_of}
use Rattle.cany_world.specs.World.{WorldParts, state_of}

-- the logs of the incarnations of node i, one after the other
unfoldable pub line : ScenarioParts → RunState → ℕ → List LogEntry
line scenario s i = flat_map (log_of scenario s i) (range_with_len 0 (suc (node_at s.nodes i).present.number))

abbrev pub line_of : WorldParts → ℕ → List LogEntry
line_of world i = line world.scenario (state_of world) i

abbrev pub nodes_of : WorldParts → ℕ
nodes_of world = world.scenario.params.nodes

-- the nodes are as many, and the line of each begins with that of before
pub record Longer (world world' : WorldParts) : Type 0 where
  pub nodes : nodes_of world' ≡ nodes_of world
  pub lines : (i : ℕ) → i < nodes_of world → IsPrefix (line_of world i) (line_of world' i)

-- no line but that of this node is longer than before, and the node is one of the world's
pub record HaveGrown (grown : Option ℕ) (world world' : WorldParts) : Type 0 where
  pub longer : Longer world world'
  pub node : IfSome grown (λ node. node < nodes_of world)
  pub others : (i : ℕ) → i < nodes_of world → grown ≢ Some i → line_of world' i ≡ line_of world i
