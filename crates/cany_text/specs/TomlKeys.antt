-- What the keys of the tables of a scenario text hold, or the first fault in it.
use Rattle.std.specs.Prelude.{ℕ, suc, ℤ, pos, negsuc, nat_le, Bool, true, false, ◌&&◌, if◌then◌else◌, List, [], ◌∷◌, length, Option, Some, None, option_and_then, option_map, Result, Ok, Err}
use Rattle.std.specs.Option.{option_map_or}
use Rattle.std.specs.List.{list_any}
use Rattle.std.specs.Str.{bytes_eq}
use Rattle.toml.specs.Data.{Data, as_integer, as_array, as_table, Items, no_items, item, Members, no_members, member, get_member}
use Rattle.cany_text.specs.declared.scenario_fault.KeyName.{KeyName}
use Rattle.cany_text.specs.declared.scenario_fault.Position.{Position}
use Rattle.cany_text.specs.declared.scenario_fault.ScenarioFault.{ScenarioFault}
use Rattle.cany_text.specs.declared.scenario_fault.ScenarioFault.TheVariants.{UnknownKey, MissingKey, WrongKind, OutOfRange, TooMany}
use Rattle.cany_text.specs.declared.scenario_fault.TableName.{TableName}
use Rattle.cany_text.specs.TextNames.{key_name}

-- what is read, or the first fault
abbrev pub Read : Type 0 → Type 0
Read A = Result A ScenarioFault

-- a step that may fail, and then the next
infixl 10 ◌>>=◌
abbrev pub ◌>>=◌ : {A B : Type 0} → Read A → (A → Read B) → Read B
Ok x >>= f = f x
Err fault >>= f = Err fault

-- the fault, where there is nothing
abbrev pub or_fault : {A : Type 0} → ScenarioFault → Option A → Read A
or_fault fault None = Err fault
or_fault fault (Some x) = Ok x

-- the fault, where the test fails
abbrev pub fault_unless : Bool → ScenarioFault → Read (Unit {0})
fault_unless true fault = Ok tt
fault_unless false fault = Err fault

-- one table of the text: the top table, or an entry of an array of tables at its place, counted
-- from 0
pub record Entry : Type 0 where
  pub table : TableName
  pub place : ℕ
  pub members : Members

-- where the value of a key stands
abbrev pub position_of : KeyName → Entry → Position
position_of name entry = record { table = entry.table; place = entry.place; name = name }

-- ---- keys

-- every key of the members is one of these
abbrev pub has_only : List KeyName → Members → Bool
has_only keys no_members = true
has_only keys (member key value rest) = list_any (λ known. bytes_eq (key_name known) key) keys && has_only keys rest

-- a table has no key but these
abbrev pub only_keys : List KeyName → Entry → Read (Unit {0})
only_keys keys entry = fault_unless (has_only keys entry.members) (UnknownKey entry.table entry.place)

-- what a required key holds, read as its kind
abbrev pub required : {A : Type 0} → (Position → Data → Read A) → KeyName → Entry → Read A
required kind name entry =
    option_map_or (kind (position_of name entry)) (get_member (key_name name) entry.members) (Err (MissingKey entry.table entry.place name))

-- the same for a key that may be absent, and then stands for a default
abbrev pub optional : {A : Type 0} → (Position → Data → Read A) → A → KeyName → Entry → Read A
optional kind default name entry =
    option_map_or (kind (position_of name entry)) (get_member (key_name name) entry.members) (Ok default)

-- ---- kinds

-- the value, where it is of the kind
abbrev pub of_kind : {A : Type 0} → Position → Option A → Read A
of_kind at value = or_fault (WrongKind at.table at.place at.name) value

-- the number, where it lies from low to high
abbrev pub within : ℕ → ℕ → Position → ℤ → Read ℕ
within low high at (pos n) = if nat_le low n && nat_le n high then Ok n else Err (OutOfRange at.table at.place at.name (pos n))
within low high at (negsuc n) = Err (OutOfRange at.table at.place at.name (negsuc n))

-- an integer from low to high
abbrev pub number_from : ℕ → ℕ → Position → Data → Read ℕ
number_from low high at value = of_kind at (as_integer value) >>= within low high at

-- what each of the items is, where each is of the kind
abbrev pub each_of : {A : Type 0} → (Data → Option A) → Items → Option (List A)
each_of kind no_items = Some []
each_of kind (item value rest) = option_and_then (λ first. option_map (λ others. first ∷ others) (each_of kind rest)) (kind value)

-- the numbers, where each lies from low to high
abbrev pub all_within : ℕ → ℕ → Position → List ℤ → Read (List ℕ)
all_within low high at [] = Ok []
all_within low high at (number ∷ rest) = do
  first ← within low high at number
  others ← all_within low high at rest
  Ok (first ∷ others)

-- an array of integers from low to high: the kinds of all of them come before the range of the
-- first
abbrev pub numbers_from : ℕ → ℕ → Position → Data → Read (List ℕ)
numbers_from low high at value = do
  items ← of_kind at (as_array value)
  numbers ← of_kind at (each_of as_integer items)
  all_within low high at numbers

-- ---- arrays of tables

-- what the entries of the array of this name stand for, from this place on, each of which is a
-- table
abbrev pub each_entry : {A : Type 0} → TableName → KeyName → (Entry → Read A) → ℕ → Items → Read (List A)
each_entry table name read place no_items = Ok []
each_entry table name read place (item value rest) = do
  members ← of_kind (record { table = table; place = place; name = name }) (as_table value)
  first ← read (record { table = table; place = place; members = members })
  others ← each_entry table name read (suc place) rest
  Ok (first ∷ others)

abbrev pub item_count : Items → ℕ
item_count no_items = 0
item_count (item value rest) = suc (item_count rest)

-- an array of so many tables at most, in file order
abbrev pub entries_from : {A : Type 0} → TableName → ℕ → (Entry → Read A) → Position → Data → Read (List A)
entries_from table most read at value = do
  items ← of_kind at (as_array value)
  _ ← fault_unless (nat_le (item_count items) most) (TooMany table)
  each_entry table at.name read 0 items

-- the array of tables at a key of the top table: empty where the key is absent
abbrev pub entries_of : {A : Type 0} → TableName → ℕ → (Entry → Read A) → KeyName → Entry → Read (List A)
entries_of table most read name top = optional (entries_from table most read) [] name top

-- ---- the first entry of which a test holds

-- The place of the first item of which the test holds, which is told the items before it, the
-- newest first.
abbrev pub first_after : {A : Type 0} → (List A → A → Bool) → List A → List A → Option ℕ
first_after test before [] = None
first_after test before (x ∷ rest) = if test before x then Some (length before) else first_after test (x ∷ before) rest

-- no item is one of which the test holds
abbrev pub fault_at_first : {A : Type 0} → (List A → A → Bool) → (ℕ → ScenarioFault) → List A → Read (Unit {0})
fault_at_first test fault items = option_map_or (λ place. Err (fault place)) (first_after test [] items) (Ok tt)
