-- An array of numbers of nodes, part by part.
use Rattle.std.specs.Prelude.{◌-◌, Bool, List, [], ◌∷◌, is_some, Ok}
use Rattle.std.specs.List.{list_all}
use Rattle.toml.specs.Data.{Data, as_integer, Items, no_items, item}
use Rattle.toml.specs.View.{view}
use Rattle.toml.specs.declared.value.Value.{Value}
use Rattle.cany_base.specs.Nodes.{Nodes}
use Rattle.cany_base.specs.Params.{Parameters}
use Rattle.cany_text.specs.declared.scenario_fault.Position.{Position}
use Rattle.cany_text.specs.NodesText.{set_of}
use Rattle.cany_text.specs.TomlKeys.{Read, ◌>>=◌, number_from}

-- each value is an integer
abbrev pub are_integers : List Value → Bool
are_integers values = list_all (λ value. is_some (as_integer (view value))) values

-- what the items are, one after another
abbrev pub in_order : {A : Type 0} → (Data → Read A) → Items → Read (List A)
in_order read no_items = Ok []
in_order read (item value rest) = do
  first ← read value
  others ← in_order read rest
  Ok (first ∷ others)

-- the set of the nodes whose numbers the items are
abbrev pub each_node : Parameters → Position → Items → Read Nodes
each_node params at items = do
  numbers ← in_order (number_from 0 (params.nodes - 1) at) items
  Ok (set_of numbers)
