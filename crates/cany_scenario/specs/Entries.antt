-- A table of the text as the code keeps it.
use Rattle.std.specs.Prelude.{ℕ, Bool, List}
use Rattle.std.specs.List.{list_any}
use Rattle.std.specs.Str.{bytes_eq}
use Rattle.toml.specs.View.{table_view}
use Rattle.cany_text.specs.declared.scenario_fault.KeyName.{KeyName}
use Rattle.cany_text.specs.TextNames.{key_name}
use Rattle.cany_text.specs.TomlKeys as toml
use Rattle.cany_scenario.specs.declared.entry.Entry.{Entry}

-- the table that it stands for
abbrev pub entry_of : Entry → toml.Entry
entry_of entry = record { table = entry.table; place = entry.place; members = table_view entry.members.now }

-- one of the keys is called so
abbrev pub is_one_of : List KeyName → List ℕ → Bool
is_one_of keys key = list_any (λ known. bytes_eq (key_name known) key) keys
