-- An array of tables of the text, part by part.
use Rattle.std.specs.Prelude.{ℕ, nat_le, List, ◌++◌, Ok}
use Rattle.toml.specs.Data.{Data, as_array, as_table, Items, no_items}
use Rattle.cany_text.specs.declared.scenario_fault.KeyName.{KeyName}
use Rattle.cany_text.specs.declared.scenario_fault.Position.{Position}
use Rattle.cany_text.specs.declared.scenario_fault.ScenarioFault.TheVariants.{TooMany}
use Rattle.cany_text.specs.declared.scenario_fault.TableName.{TableName}
use Rattle.cany_text.specs.TomlKeys.{Read, ◌>>=◌, Entry, fault_unless, optional, of_kind, item_count}

-- an array of so many items at most
abbrev pub few_items : TableName → ℕ → Position → Data → Read Items
few_items table most at value = do
  items ← of_kind at (as_array value)
  _ ← fault_unless (nat_le (item_count items) most) (TooMany table)
  Ok items

-- the items of the array of tables at a key of the top table: none where the key is absent
abbrev pub items_at : TableName → ℕ → KeyName → Entry → Read Items
items_at table most name top = optional (few_items table most) no_items name top

-- the item at a place of the array as an entry, where it is a table
abbrev pub entry_at : TableName → KeyName → ℕ → Data → Read Entry
entry_at table name place value = do
  members ← of_kind (record { table = table; place = place; name = name }) (as_table value)
  Ok (record { table = table; place = place; members = members })

-- what was found, and what is found in the rest
abbrev pub after : {A : Type 0} → List A → Read (List A) → Read (List A)
after found rest = do
  others ← rest
  Ok (found ++ others)
