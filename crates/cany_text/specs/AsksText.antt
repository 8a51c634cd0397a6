-- The scripted joins, leaves and restarts that a scenario text gives.
use Rattle.std.specs.Prelude.{◌-◌, nat_le, Bool, List, [], ◌∷◌, count_by, Ok}
use Rattle.cany_base.specs.declared.message.NodeAsk.{NodeAsk}
use Rattle.cany_base.specs.Limits.{most_joins, most_leaves, most_restarts, most_restarts_of_node}
use Rattle.cany_base.specs.Params.{Parameters}
use Rattle.cany_base.specs.Scenario.{is_ask_of_node}
use Rattle.cany_text.specs.declared.scenario_fault.KeyName.{KeyName}
use Rattle.cany_text.specs.declared.scenario_fault.KeyName.TheVariants as key
use Rattle.cany_text.specs.declared.scenario_fault.ScenarioFault.TheVariants.{TooOften}
use Rattle.cany_text.specs.declared.scenario_fault.TableName.TheVariants as table
use Rattle.cany_text.specs.TomlKeys.{Read, ◌>>=◌, Entry, only_keys, required, number_from, entries_of, fault_at_first}

abbrev pub ask_keys : List KeyName
ask_keys = key.Slot ∷ key.Node ∷ []

-- an entry of `join`, `leave` or `restart`: a slot of the run, and a node of the bus
unfoldable pub ask_from : Parameters → Entry → Read NodeAsk
ask_from params entry = do
  _ ← only_keys ask_keys entry
  slot ← required (number_from 0 (params.slots - 1)) key.Slot entry
  node ← required (number_from 0 (params.nodes - 1)) key.Node entry
  Ok (record { slot = slot; node = node })

-- the key `join`: at most 1,000 entries, in file order
abbrev pub joins_of : Parameters → Entry → Read (List NodeAsk)
joins_of params top = entries_of table.Join most_joins (ask_from params) key.Join top

-- the key `leave`: at most 1,000 entries, in file order
abbrev pub leaves_of : Parameters → Entry → Read (List NodeAsk)
leaves_of params top = entries_of table.Leave most_leaves (ask_from params) key.Leave top

-- as many entries as a node may have came before
abbrev pub is_one_too_many : List NodeAsk → NodeAsk → Bool
is_one_too_many before ask = nat_le most_restarts_of_node (count_by (is_ask_of_node ask.node) before)

-- the key `restart`: at most 64 entries, in file order, at most 15 of one node
unfoldable pub restarts_of : Parameters → Entry → Read (List NodeAsk)
restarts_of params top = do
  restarts ← entries_of table.Restart most_restarts (ask_from params) key.Restart top
  _ ← fault_at_first is_one_too_many TooOften restarts
  Ok restarts
