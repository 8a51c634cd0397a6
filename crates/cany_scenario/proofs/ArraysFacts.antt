-- The items of an array of tables, and what its entries stand for from a place on.
use Rattle.std.proofs.Common.{◌≡◌, ℕ, suc, ◌+◌, ◌<◌, ◌≤◌, true, false, List, [], ◌∷◌, ◌++◌, length, drop, get_or, Some, refl, ap, sym, ◌∙◌, append_assoc, append-nil, arith}
use Rattle.std.specs.Prelude.{nat_le, Option, None, Ok, Err}
use Rattle.std.specs.Option.{option_map_or}
use Rattle.std.proofs.Math.Seq.{drop-length}
use Rattle.std.proofs.lemmas.Bool.Decides.{nat_tests}
use Rattle.toml.specs.Data.{Data, as_array, as_table, Members, Items, no_items, item, get_member}
use Rattle.toml.specs.View.{view, items_view}
use Rattle.toml.specs.declared.value.Value.{Value}
use Rattle.toml.proofs.Views.{items_view-drop}
use Rattle.cany_text.specs.declared.scenario_fault.KeyName.{KeyName}
use Rattle.cany_text.specs.declared.scenario_fault.Position.{Position}
use Rattle.cany_text.specs.declared.scenario_fault.ScenarioFault.{ScenarioFault}
use Rattle.cany_text.specs.declared.scenario_fault.ScenarioFault.TheVariants.{TooMany}
use Rattle.cany_text.specs.declared.scenario_fault.TableName.{TableName}
use Rattle.cany_text.specs.TextNames.{key_name}
use Rattle.cany_text.specs.TomlKeys.{Read, ◌>>=◌, Entry, of_kind, fault_unless, position_of, each_entry, item_count, entries_from, entries_of}
use Rattle.cany_scenario.specs.Arrays.{few_items, items_at, entry_at, after}

-- there are as many items as there are values
item_count-items_view : (values : List Value) → item_count (items_view values) ≡ length values
item_count-items_view [] = refl
item_count-items_view (v ∷ vs) = ap suc (item_count-items_view vs)

-- more items than there may be
pub few_items-many : (table : TableName) (most : ℕ) (at : Position) (value : Data) (values : List Value) → as_array value ≡ Some (items_view values)
    → most < length values → few_items table most at value ≡ Err (TooMany table)
few_items-many table most at value values is many =
    let test : nat_le (item_count (items_view values)) most ≡ false = rw (item_count-items_view values) (grind (arith, nat_tests)) in
    rw (is, test) refl

-- so many items and fewer
pub few_items-few : (table : TableName) (most : ℕ) (at : Position) (value : Data) (values : List Value) → as_array value ≡ Some (items_view values)
    → length values ≤ most → few_items table most at value ≡ Ok (items_view values)
few_items-few table most at value values is few =
    let test : nat_le (item_count (items_view values)) most ≡ true = rw (item_count-items_view values) (grind (arith, nat_tests)) in
    rw (is, test) refl

-- ---- the array at a key: its items, and then what its entries stand for

tested : {A : Type 0} (test : Read (Unit {0})) (items : Items) (read : Items → Read A) → (test >>= (λ u. read items)) ≡ ((test >>= (λ u. Ok items)) >>= read)
tested (Err fault) items read = refl
tested (Ok u) items read = refl

then_read : {A : Type 0} (array : Read Items) (test : Items → Read (Unit {0})) (read : Items → Read A)
    → (array >>= (λ items. test items >>= (λ u. read items))) ≡ ((array >>= (λ items. test items >>= (λ u. Ok items))) >>= read)
then_read (Err fault) test read = refl
then_read (Ok items) test read = tested (test items) items read

by_items : {A : Type 0} (table : TableName) (most : ℕ) (read : Entry → Read A) (at : Position) (found : Option Data)
    → option_map_or (entries_from table most read at) found (Ok []) ≡ (option_map_or (few_items table most at) found (Ok no_items) >>= each_entry table at.name read 0)
by_items table most read at None = refl
by_items table most read at (Some value) =
    then_read (of_kind at (as_array value)) (λ items. fault_unless (nat_le (item_count items) most) (TooMany table)) (each_entry table at.name read 0)

entries_of-items_at : {A : Type 0} (table : TableName) (most : ℕ) (read : Entry → Read A) (name : KeyName) (top : Entry)
    → entries_of table most read name top ≡ (items_at table most name top >>= each_entry table name read 0)
entries_of-items_at table most read name top = by_items table most read (position_of name top) (get_member (key_name name) top.members)

-- a fault of the array
pub entries_of-fault : {A : Type 0} (table : TableName) (most : ℕ) (read : Entry → Read A) (name : KeyName) (top : Entry) (fault : ScenarioFault)
    → items_at table most name top ≡ Err fault → entries_of table most read name top ≡ Err fault
entries_of-fault table most read name top fault bad =
    entries_of-items_at table most read name top ∙ ap (λ (items : Read Items). items >>= each_entry table name read 0) bad

-- or its items
pub entries_of-items : {A : Type 0} (table : TableName) (most : ℕ) (read : Entry → Read A) (name : KeyName) (top : Entry) (items : Items)
    → items_at table most name top ≡ Ok items → entries_of table most read name top ≡ each_entry table name read 0 items
entries_of-items table most read name top items there =
    entries_of-items_at table most read name top ∙ ap (λ (items : Read Items). items >>= each_entry table name read 0) there

-- ---- one entry after another

-- what the entries from a place on stand for
abbrev pub from_place : {A : Type 0} → TableName → KeyName → (Entry → Read A) → List Value → ℕ → Read (List A)
from_place table name read values place = each_entry table name read place (items_view (drop place values))

-- what was found, then the first of what is left, and the others
pub after-first : {A : Type 0} (found : List A) (first : Read A) (rest : Read (List A))
    → after found (first >>= (λ x. rest >>= (λ others. Ok (x ∷ others)))) ≡ (first >>= (λ x. after (found ++ x ∷ []) rest))
after-first found (Err fault) rest = refl
after-first found (Ok x) (Err fault) = refl
after-first found (Ok x) (Ok others) = ap Ok (sym (append_assoc found (x ∷ []) others))

first_entry : {A : Type 0} (found : List A) (members : Read Members) (entry : Members → Entry) (read : Entry → Read A) (rest : Read (List A))
    → after found (members >>= (λ m. read (entry m) >>= (λ x. rest >>= (λ others. Ok (x ∷ others)))))
    ≡ ((members >>= (λ m. Ok (entry m))) >>= (λ e. read e >>= (λ x. after (found ++ x ∷ []) rest)))
first_entry found (Err fault) entry read rest = refl
first_entry found (Ok m) entry read rest = after-first found (read (entry m)) rest

from_place-next : {A : Type 0} (table : TableName) (name : KeyName) (read : Entry → Read A) (values : List Value) (place : ℕ) (value : Value) (found : List A)
    → place < length values → value ≡ get_or values place value
    → after found (from_place table name read values place)
    ≡ (entry_at table name place (view value) >>= (λ e. read e >>= (λ x. after (found ++ x ∷ []) (from_place table name read values (place + 1)))))
from_place-next table name read values place value found within is =
    let next : suc place ≡ place + 1 = omega arith in
    ap (λ items. after found (each_entry table name read place items)) (items_view-drop values place value within)
    ∙ ap (λ (v : Value). after found (each_entry table name read place (item (view v) (items_view (drop (place + 1) values))))) (sym is)
    ∙ first_entry found (of_kind (record { table = table; place = place; name = name }) (as_table (view value)))
    (λ members. record { table = table; place = place; members = members }) read (each_entry table name read (suc place) (items_view (drop (place + 1) values)))
    ∙ ap (λ n. entry_at table name place (view value) >>= (λ e. read e >>= (λ x. after (found ++ x ∷ []) (each_entry table name read n (items_view (drop (place + 1) values)))))) next

-- before the first entry
pub from_place-start : {A : Type 0} (rest : Read (List A)) → rest ≡ after [] rest
from_place-start (Err fault) = refl
from_place-start (Ok others) = refl

-- an item that is no table
pub from_place-no_entry : {A : Type 0} (table : TableName) (name : KeyName) (read : Entry → Read A) (values : List Value) (place : ℕ) (value : Value) (found : List A)
    → place < length values → value ≡ get_or values place value → (fault : ScenarioFault) → entry_at table name place (view value) ≡ Err fault
    → after found (from_place table name read values place) ≡ Err fault
from_place-no_entry table name read values place value found within is fault bad =
    from_place-next table name read values place value found within is
    ∙ ap (λ (e : Read Entry). e >>= (λ e. read e >>= (λ x. after (found ++ x ∷ []) (from_place table name read values (place + 1))))) bad

-- an entry that stands for nothing
pub from_place-bad : {A : Type 0} (table : TableName) (name : KeyName) (read : Entry → Read A) (values : List Value) (place : ℕ) (value : Value) (found : List A)
    → place < length values → value ≡ get_or values place value → (entry : Entry) → entry_at table name place (view value) ≡ Ok entry
    → (fault : ScenarioFault) → read entry ≡ Err fault → after found (from_place table name read values place) ≡ Err fault
from_place-bad {A = A} table name read values place value found within is entry there fault bad =
    from_place-next table name read values place value found within is
    ∙ ap (λ (e : Read Entry). e >>= (λ e. read e >>= (λ x. after (found ++ x ∷ []) (from_place table name read values (place + 1))))) there
    ∙ ap (λ (r : Read A). r >>= (λ x. after (found ++ x ∷ []) (from_place table name read values (place + 1)))) bad

-- one more entry
pub from_place-good : {A : Type 0} (table : TableName) (name : KeyName) (read : Entry → Read A) (values : List Value) (place : ℕ) (value : Value) (found : List A)
    → place < length values → value ≡ get_or values place value → (entry : Entry) → entry_at table name place (view value) ≡ Ok entry
    → (x : A) → read entry ≡ Ok x → after found (from_place table name read values place) ≡ after (found ++ x ∷ []) (from_place table name read values (place + 1))
from_place-good {A = A} table name read values place value found within is entry there x good =
    from_place-next table name read values place value found within is
    ∙ ap (λ (e : Read Entry). e >>= (λ e. read e >>= (λ x. after (found ++ x ∷ []) (from_place table name read values (place + 1))))) there
    ∙ ap (λ (r : Read A). r >>= (λ x. after (found ++ x ∷ []) (from_place table name read values (place + 1)))) good

-- after the last entry
pub from_place-done : {A : Type 0} (table : TableName) (name : KeyName) (read : Entry → Read A) (values : List Value) (place : ℕ) (found : List A)
    → place ≡ length values → after found (from_place table name read values place) ≡ Ok found
from_place-done table name read values place found end = rw (end, drop-length values) (ap Ok (append-nil found))
