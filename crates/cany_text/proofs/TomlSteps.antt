-- What the words for the keys of a table give, where they find no fault.
use Rattle.std.proofs.Common.{◌≡◌, ℕ, suc, ℤ, pos, negsuc, ◌-◌, ◌<◌, ◌≤◌, Bool, true, false, nat_le, List, [], ◌∷◌, length, Option, Some, None, refl, ap, arith}
use Rattle.std.specs.Prelude.{All, Ok, Err}
use Rattle.std.specs.Option.{option_map_or}
use Rattle.std.proofs.lemmas.Bool.Decides.{nat_tests}
use Rattle.std.proofs.lemmas.List.Elements.{All-nil, All-cons}
use Rattle.toml.specs.Data.{Data, as_integer, as_array, as_table, Items, no_items, item, get_member}
use Rattle.cany_text.specs.declared.scenario_fault.KeyName.{KeyName}
use Rattle.cany_text.specs.declared.scenario_fault.Position.{Position}
use Rattle.cany_text.specs.declared.scenario_fault.ScenarioFault.{ScenarioFault}
use Rattle.cany_text.specs.declared.scenario_fault.ScenarioFault.TheVariants.{MissingKey, TooMany}
use Rattle.cany_text.specs.declared.scenario_fault.TableName.{TableName}
use Rattle.cany_text.specs.TextNames.{key_name}
use Rattle.cany_text.specs.TomlKeys.{Read, ◌>>=◌, Entry, or_fault, fault_unless, position_of, required, of_kind, within, number_from, each_of, all_within, numbers_from, each_entry, item_count, entries_from, entries_of, first_after, fault_at_first}

-- ---- steps

abbrev value_or : {A : Type 0} → A → Read A → A
value_or default (Ok x) = x
value_or default (Err fault) = default

abbrev pub found : {A : Type 0} → A → Read A
found x = Ok x

-- two values that are read as one
pub same_ok : {A : Type 0} (x y : A) → found x ≡ found y → x ≡ y
same_ok x y h = ap (value_or x) h

-- what a step and the next gave
pub bind_ok : {A B : Type 0} (r : Read A) (f : A → Read B) (y : B) → (r >>= f) ≡ Ok y → (x : A) × (r ≡ Ok x) × (f x ≡ Ok y)
bind_ok (Ok x) f y h = (x, refl, h)
bind_ok (Err fault) f y h = cc h

pub or_fault-some : {A : Type 0} (fault : ScenarioFault) (o : Option A) (x : A) → or_fault fault o ≡ Ok x → o ≡ Some x
or_fault-some fault None x h = cc h
or_fault-some fault (Some y) x h = ap Some (same_ok y x h)

pub fault_unless-true : {B : Type 0} (test : Bool) (fault : ScenarioFault) (f : Unit {0} → Read B) (y : B)
    → (fault_unless test fault >>= f) ≡ Ok y
    → (test ≡ true) × (f tt ≡ Ok y)
fault_unless-true true fault f y h = (refl, h)
fault_unless-true false fault f y h = cc h

pub few-from_test : (n most : ℕ) → nat_le n most ≡ true → n ≤ most
few-from_test n most h = grind (arith, nat_tests)

-- ---- keys

-- what holds of all that a required key can hold
pub required-holds : {A : Type 0} (P : A → Type 0) (read : Data → Read A) (missing : ScenarioFault)
    → ((value : Data) (x : A) → read value ≡ Ok x → P x)
    → (o : Option Data) (x : A) → option_map_or read o (Err missing) ≡ Ok x → P x
required-holds P read missing each None x h = cc h
required-holds P read missing each (Some value) x h = each value x h

-- what holds of the default and of all that is read
pub optional-holds : {A : Type 0} (P : A → Type 0) (read : Data → Read A) (default : A) → P default
    → ((value : Data) (x : A) → read value ≡ Ok x → P x)
    → (o : Option Data) (x : A) → option_map_or read o (Ok default) ≡ Ok x → P x
optional-holds P read default here each None x h = let e = same_ok default x h in rw (← e) here
optional-holds P read default here each (Some value) x h = each value x h

-- ---- numbers

within-range : (low high : ℕ) (at : Position) (z : ℤ) (n : ℕ) → within low high at z ≡ Ok n → (low ≤ n) × (n ≤ high)
within-range low high at (pos m) n h = grind (arith, nat_tests)
within-range low high at (negsuc m) n h = cc h

pub number_from-range : (low high : ℕ) (at : Position) (value : Data) (n : ℕ) → number_from low high at value ≡ Ok n
    → (low ≤ n) × (n ≤ high)
number_from-range low high at value n h =
    let p = bind_ok (of_kind at (as_integer value)) (within low high at) n h in
    within-range low high at p.0 n p.2

pub required-range : (low high : ℕ) (name : KeyName) (entry : Entry) (n : ℕ) → required (number_from low high) name entry ≡ Ok n
    → (low ≤ n) × (n ≤ high)
required-range low high name entry n h =
    let at = position_of name entry in
    required-holds (λ m. (low ≤ m) × (m ≤ high)) (number_from low high at) (MissingKey entry.table entry.place name)
    (number_from-range low high at) (get_member (key_name name) entry.members) n h

-- one of so many, counted from 0, of which there is one
pub required-below : (count : ℕ) → 1 ≤ count → (name : KeyName) (entry : Entry) (n : ℕ)
    → required (number_from 0 (count - 1)) name entry ≡ Ok n → n < count
required-below count some name entry n h = let r = required-range 0 (count - 1) name entry n h in omega (arith, r)

all_within-range : (low high : ℕ) (at : Position) (numbers : List ℤ) (read : List ℕ) → all_within low high at numbers ≡ Ok read
    → All (λ n. (low ≤ n) × (n ≤ high)) read
all_within-range low high at [] read h = let e = same_ok [] read h in rw (← e) (All-nil _)
all_within-range low high at (number ∷ rest) read h =
    let first = bind_ok (within low high at number) _ read h in
    let others = bind_ok (all_within low high at rest) _ read first.2 in
    let e = same_ok (first.0 ∷ others.0) read others.2 in
    rw (← e) (All-cons (λ n. (low ≤ n) × (n ≤ high)) first.0 others.0 (within-range low high at number first.0 first.1)
    (all_within-range low high at rest others.0 others.1))

pub numbers_from-range : (low high : ℕ) (at : Position) (value : Data) (read : List ℕ) → numbers_from low high at value ≡ Ok read
    → All (λ n. (low ≤ n) × (n ≤ high)) read
numbers_from-range low high at value read h =
    let items = bind_ok (of_kind at (as_array value)) _ read h in
    let numbers = bind_ok (of_kind at (each_of as_integer items.0)) _ read items.2 in
    all_within-range low high at numbers.0 read numbers.2

-- ---- arrays of tables

-- at most so many, and each is such
abbrev pub AreFew : {A : Type 0} → (A → Type 0) → ℕ → List A → Type 0
AreFew P most all = All P all × (length all ≤ most)

none_are_few : {A : Type 0} (P : A → Type 0) (most : ℕ) → AreFew P most []
none_are_few P most = (All-nil P, omega arith)

each_entry-All : {A : Type 0} (P : A → Type 0) (table : TableName) (name : KeyName) (read : Entry → Read A)
    → ((entry : Entry) (x : A) → read entry ≡ Ok x → P x)
    → (place : ℕ) (items : Items) (all : List A) → each_entry table name read place items ≡ Ok all
    → All P all × (length all ≡ item_count items)
each_entry-All P table name read each place no_items all h = let e = same_ok [] all h in rw (← e) (All-nil P, refl)
each_entry-All P table name read each place (item value rest) all h =
    let members = bind_ok (of_kind (record { table = table; place = place; name = name }) (as_table value)) _ all h in
    let first = bind_ok (read (record { table = table; place = place; members = members.0 })) _ all members.2 in
    let others = bind_ok (each_entry table name read (suc place) rest) _ all first.2 in
    let e = same_ok (first.0 ∷ others.0) all others.2 in
    let later = each_entry-All P table name read each (suc place) rest others.0 others.1 in
    rw (← e) (All-cons P first.0 others.0 (each _ first.0 first.1) later.0, ap suc later.1)

entries_from-few : {A : Type 0} (P : A → Type 0) (table : TableName) (most : ℕ) (read : Entry → Read A)
    → ((entry : Entry) (x : A) → read entry ≡ Ok x → P x)
    → (at : Position) (value : Data) (all : List A) → entries_from table most read at value ≡ Ok all → AreFew P most all
entries_from-few P table most read each at value all h =
    let items = bind_ok (of_kind at (as_array value)) _ all h in
    let few = fault_unless-true (nat_le (item_count items.0) most) (TooMany table) _ all items.2 in
    let each_is = each_entry-All P table at.name read each 0 items.0 all few.1 in
    let short = few-from_test (item_count items.0) most few.0 in
    (each_is.0, omega (arith, each_is.1, short))

-- at a key, whose entries are none where it is absent
pub entries_of-few : {A : Type 0} (P : A → Type 0) (table : TableName) (most : ℕ) (read : Entry → Read A)
    → ((entry : Entry) (x : A) → read entry ≡ Ok x → P x)
    → (name : KeyName) (top : Entry) (all : List A) → entries_of table most read name top ≡ Ok all → AreFew P most all
entries_of-few P table most read each name top all h =
    let at = position_of name top in
    optional-holds (AreFew P most) (entries_from table most read at) [] (none_are_few P most) (entries_from-few P table most read each at)
    (get_member (key_name name) top.members) all h

-- ---- the first entry of which a test holds

none_from_ok : (fault : ℕ → ScenarioFault) (o : Option ℕ) (unit : Unit {0})
    → option_map_or (λ place. Err (fault place)) o (found unit) ≡ Ok unit → o ≡ None
none_from_ok fault None unit h = refl
none_from_ok fault (Some place) unit h = cc h

pub fault_at_first-none : {A B : Type 0} (test : List A → A → Bool) (fault : ℕ → ScenarioFault) (items : List A) (f : Unit {0} → Read B)
    (y : B)
    → (fault_at_first test fault items >>= f) ≡ Ok y → (first_after test [] items ≡ None) × (f tt ≡ Ok y)
fault_at_first-none test fault items f y h =
    let step = bind_ok (fault_at_first test fault items) f y h in
    (none_from_ok fault (first_after test [] items) tt step.1, step.2)

-- the entries of an array, where the test holds of none after those before it
pub entries_of-none : {A : Type 0} (P : A → Type 0) (table : TableName) (most : ℕ) (read : Entry → Read A)
    → ((entry : Entry) (x : A) → read entry ≡ Ok x → P x)
    → (name : KeyName) (top : Entry) (test : List A → A → Bool) (fault : ℕ → ScenarioFault) (all : List A)
    → (entries_of table most read name top >>= (λ items. fault_at_first test fault items >>= (λ _. Ok items))) ≡ Ok all
    → AreFew P most all × (first_after test [] all ≡ None)
entries_of-none P table most read each name top test fault all h =
    let items = bind_ok (entries_of table most read name top) _ all h in
    let few = entries_of-few P table most read each name top items.0 items.1 in
    let none = fault_at_first-none test fault items.0 _ all items.2 in
    let same = same_ok items.0 all none.1 in
    rw (← same) (few, none.0)
