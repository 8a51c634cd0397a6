-- The kinds of the items of an array, and the items one after another.
use Rattle.std.proofs.Common.{◌≡◌, ℕ, ℤ, ◌+◌, ◌<◌, Bool, true, false, List, [], ◌∷◌, length, get_or, drop, Option, Some, None, refl, ap, sym, ◌∙◌}
use Rattle.std.specs.Prelude.{◌&&◌, is_some, option_and_then, option_map, Ok}
use Rattle.std.specs.List.{list_all}
use Rattle.std.proofs.lemmas.Bool.{false≢true}
use Rattle.std.proofs.lemmas.Option.{same_Some}
use Rattle.toml.specs.Data.{Data, as_integer}
use Rattle.toml.specs.View.{view, items_view}
use Rattle.toml.specs.declared.value.Value.{Value}
use Rattle.toml.proofs.Views.{items_view-drop}
use Rattle.cany_text.specs.declared.scenario_fault.Position.{Position}
use Rattle.cany_text.specs.TomlKeys.{Read, ◌>>=◌, of_kind, number_from, within, all_within, each_of}
use Rattle.cany_scenario.specs.NodesParts.{are_integers, in_order}

-- ---- the kinds of all items

both_kinds : {A : Type 0} (first : Option A) (rest : Option (List A)) (test : Bool) → test ≡ is_some rest
    → (is_some first && test) ≡ is_some (option_and_then (λ x. option_map (λ others. x ∷ others) rest) first)
both_kinds None rest test same = refl
both_kinds (Some x) None test same = same
both_kinds (Some x) (Some others) test same = same

-- whether each is of the kind
pub each_of-is_some : {A : Type 0} (kind : Data → Option A) (values : List Value)
    → list_all (λ value. is_some (kind (view value))) values ≡ is_some (each_of kind (items_view values))
each_of-is_some kind [] = refl
each_of-is_some kind (v ∷ vs) = both_kinds (kind (view v)) (each_of kind (items_view vs)) _ (each_of-is_some kind vs)

none_of : {A : Type 0} (o : Option A) → is_some o ≡ false → o ≡ None
none_of None h = refl
none_of (Some x) h = absurd (false≢true (sym h))

-- one is not
pub each_of-none : {A : Type 0} (kind : Data → Option A) (values : List Value)
    → list_all (λ value. is_some (kind (view value))) values ≡ false → each_of kind (items_view values) ≡ None
each_of-none kind values none = none_of (each_of kind (items_view values)) (sym (each_of-is_some kind values) ∙ none)

-- ---- integers, the range of each

first_within : (low high : ℕ) (at : Position) (first : Option ℤ) (rest : Option (List ℤ)) (numbers : List ℤ) (found : Read (List ℕ))
    → option_and_then (λ x. option_map (λ others. x ∷ others) rest) first ≡ Some numbers
    → ((others : List ℤ) → rest ≡ Some others → all_within low high at others ≡ found)
    → all_within low high at numbers ≡ ((of_kind at first >>= within low high at) >>= (λ n. found >>= (λ others. Ok (n ∷ others))))
first_within low high at None rest numbers found split next = cc
first_within low high at (Some x) None numbers found split next = cc
first_within low high at (Some x) (Some others) numbers found split next = rw (← same_Some _ _ split, next others refl) refl

each_within : (low high : ℕ) (at : Position) (values : List Value) (numbers : List ℤ) → each_of as_integer (items_view values) ≡ Some numbers
    → all_within low high at numbers ≡ in_order (number_from low high at) (items_view values)
each_within low high at [] numbers is = rw (← same_Some _ _ is) refl
each_within low high at (v ∷ vs) numbers is =
    first_within low high at (as_integer (view v)) (each_of as_integer (items_view vs)) numbers _ is (each_within low high at vs)

by_numbers : (low high : ℕ) (at : Position) (values : List Value) (o : Option (List ℤ)) → each_of as_integer (items_view values) ≡ o → is_some o ≡ true
    → (of_kind at o >>= all_within low high at) ≡ in_order (number_from low high at) (items_view values)
by_numbers low high at values None is some = absurd (false≢true some)
by_numbers low high at values (Some numbers) is some = each_within low high at values numbers is

-- where each is an integer, their ranges decide, in order
pub integers_in_order : (low high : ℕ) (at : Position) (values : List Value) → are_integers values ≡ true
    → (of_kind at (each_of as_integer (items_view values)) >>= all_within low high at) ≡ in_order (number_from low high at) (items_view values)
integers_in_order low high at values all =
    by_numbers low high at values (each_of as_integer (items_view values)) refl (sym (each_of-is_some as_integer values) ∙ all)

-- ---- one item after another

-- what the items from index i on are
abbrev pub from_index : {A : Type 0} → (Data → Read A) → List Value → ℕ → Read (List A)
from_index read values i = in_order read (items_view (drop i values))

pub from_index-next : {A : Type 0} (read : Data → Read A) (values : List Value) (i : ℕ) (value : Value) → i < length values → value ≡ get_or values i value
    → from_index read values i ≡ (read (view value) >>= (λ first. from_index read values (i + 1) >>= (λ others. Ok (first ∷ others))))
from_index-next read values i value here is =
    ap (in_order read) (items_view-drop values i value here)
    ∙ ap (λ (v : Value). read (view v) >>= (λ first. from_index read values (i + 1) >>= (λ others. Ok (first ∷ others)))) (sym is)
