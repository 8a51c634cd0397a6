-- The sets of nodes that a scenario text gives.
use Rattle.std.specs.Prelude.{ℕ, ◌-◌, ◌==◌, nat_lt, List, Ok}
use Rattle.std.specs.List.{list_any}
use Rattle.toml.specs.Data.{Data}
use Rattle.cany_base.specs.Nodes.{Nodes, those_where}
use Rattle.cany_base.specs.Params.{Parameters}
use Rattle.cany_text.specs.declared.scenario_fault.Position.{Position}
use Rattle.cany_text.specs.TomlKeys.{Read, ◌>>=◌, numbers_from}

-- the set of the nodes with these numbers, of which one may stand twice
abbrev pub set_of : List ℕ → Nodes
set_of numbers = those_where (λ node. list_any (λ number. number == node) numbers)

-- an array of numbers of nodes of the bus
unfoldable pub nodes_from : Parameters → Position → Data → Read Nodes
nodes_from params at value = do
  numbers ← numbers_from 0 (params.nodes - 1) at value
  Ok (set_of numbers)

-- every node of the bus
abbrev pub all_nodes : Parameters → Nodes
all_nodes params = those_where (λ node. nat_lt node params.nodes)
