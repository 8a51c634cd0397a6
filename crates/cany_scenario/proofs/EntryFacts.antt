-- The keys of a table, the list of keys that it is held to, and what a required key holds.
use Rattle.std.proofs.Common.{◌≡◌, Bool, true, false, List, [], ◌∷◌, String, Global, Bor, string_bytes, refl}
use Rattle.std.specs.List.{list_all}
use Rattle.std.specs.Map.{keys_of}
use Rattle.std.specs.Prelude.{Option, None, Some, option_map, Ok, Err}
use Rattle.std.specs.Option.{ok_or, option_map_or}
use Rattle.std.specs.Result.{result_map_both}
use Rattle.toml.specs.Data.{Data, get_member}
use Rattle.toml.specs.declared.value.Value.{Value}
use Rattle.toml.specs.View.{view, members_view}
use Rattle.cany_text.specs.declared.scenario_fault.KeyName.{KeyName}
use Rattle.cany_text.specs.declared.scenario_fault.Position.{Position}
use Rattle.cany_text.specs.declared.scenario_fault.ScenarioFault.{ScenarioFault}
use Rattle.cany_text.specs.TextNames.{key_name}
use Rattle.cany_text.specs.TomlKeys.{Read, Entry, has_only, position_of, required}
use Rattle.cany_scenario.specs.Entries.{is_one_of}

-- each key is one of these
abbrev pub all_are_among : List KeyName → List (String Global) → Bool
all_are_among keys = list_all (λ key. is_one_of keys (string_bytes key))

pub all_are_among-keys_of : (keys : List KeyName) (es : List (String Global × Value))
    → all_are_among keys (keys_of es) ≡ has_only keys (members_view es)
all_are_among-keys_of keys [] = refl
all_are_among-keys_of keys (e ∷ es) = rw (all_are_among-keys_of keys es)

-- a key that is among them says nothing of the rest, and one that is not decides
pub all_are_among-good : (keys : List KeyName) (left rest : List (String Global)) (key : String Global)
    → left ≡ key ∷ rest → is_one_of keys (string_bytes key) ≡ true → all_are_among keys left ≡ all_are_among keys rest
all_are_among-good keys left rest key split good = rw (split, good)

pub all_are_among-bad : (keys : List KeyName) (left rest : List (String Global)) (key : String Global)
    → left ≡ key ∷ rest → is_one_of keys (string_bytes key) ≡ false → all_are_among keys left ≡ false
all_are_among-bad keys left rest key split bad = rw (split, bad)

pub all_are_among-none : (keys : List KeyName) (left : List (String Global)) → left ≡ [] → all_are_among keys left ≡ true
all_are_among-none keys left none = rw none

-- ---- required keys

-- the value of a required key
abbrev pub required_value : KeyName → Entry → Read Data
required_value = required (λ at value. Ok value)

-- what a look-up finds, or the fault
pub found_or_missing : (found : Option (Bor Value)) (value : Option Data) (missing : ScenarioFault) → option_map (λ (v : Bor Value). view v.now) found ≡ value
    → result_map_both (λ (v : Bor Value). view v.now) (λ (fault : ScenarioFault). fault) (ok_or found missing) ≡ option_map_or (λ (value : Data). Ok value) value (Err missing)
found_or_missing None value missing is = rw (← is) refl
found_or_missing (Some v) value missing is = rw (← is) refl

found-fault : {A : Type 0} (read : Data → Read A) (found : Option Data) (missing fault : ScenarioFault)
    → option_map_or (λ (value : Data). Ok value) found (Err missing) ≡ Err fault → option_map_or read found (Err missing) ≡ Err fault
found-fault read None missing fault bad = cc
found-fault read (Some value) missing fault bad = cc

found-value : {A : Type 0} (read : Data → Read A) (found : Option Data) (missing : ScenarioFault) (value : Data)
    → option_map_or (λ (value : Data). Ok value) found (Err missing) ≡ Ok value → option_map_or read found (Err missing) ≡ read value
found-value read None missing value there = cc
found-value read (Some other) missing value there = cc

-- a key that is not there is not read
pub required-fault : {A : Type 0} (read : Position → Data → Read A) (name : KeyName) (entry : Entry) (fault : ScenarioFault)
    → required_value name entry ≡ Err fault → required read name entry ≡ Err fault
required-fault read name entry fault bad = found-fault (read (position_of name entry)) (get_member (key_name name) entry.members) _ fault bad

-- what is there is read
pub required-value : {A : Type 0} (read : Position → Data → Read A) (name : KeyName) (entry : Entry) (value : Data)
    → required_value name entry ≡ Ok value → required read name entry ≡ read (position_of name entry) value
required-value read name entry value there = found-value (read (position_of name entry)) (get_member (key_name name) entry.members) _ value there
