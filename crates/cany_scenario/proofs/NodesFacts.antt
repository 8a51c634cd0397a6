-- A set of nodes that grows by the items of an array.
use Rattle.std.proofs.Common.{◌≡◌, ℕ, ◌+◌, ◌<◌, ◌≤◌, ◌==◌, ◌&&◌, ◌||◌, nat_lt, Bool, true, false, List, ◌∷◌, length, get_or, Some, refl, ap, sym, ◌∙◌, arith}
use Rattle.std.specs.Prelude.{Ok, Err}
use Rattle.std.specs.List.{list_any}
use Rattle.std.proofs.Math.Seq.{drop-length}
use Rattle.std.proofs.lemmas.Bool.{false≢true, lt-ltb}
use Rattle.std.proofs.lemmas.Bool.Decides.{nat_tests}
use Rattle.toml.specs.Data.{Data, as_array, as_integer}
use Rattle.toml.specs.View.{view, items_view}
use Rattle.toml.specs.declared.value.Value.{Value}
use Rattle.cany_base.specs.Limits.{most_nodes}
use Rattle.cany_base.specs.Nodes.{Nodes, has, those_where, AllBelow}
use Rattle.cany_base.specs.Params.{Parameters}
-- no contract speaks of the words on sets alone, which the definition of a text uses
use Rattle.cany_base.proofs.NodesFacts.{those_where-ext, same_as_those_where}
use Rattle.cany_text.specs.declared.scenario_fault.Position.{Position}
use Rattle.cany_text.specs.declared.scenario_fault.ScenarioFault.TheVariants.{WrongKind}
use Rattle.cany_text.specs.NodesText.{set_of, all_nodes, nodes_from}
use Rattle.cany_text.specs.TomlKeys.{Read, ◌>>=◌}
use Rattle.cany_scenario.specs.NodesParts.{are_integers, each_node}
use Rattle.cany_scenario.proofs.KindsFacts.{each_of-none, integers_in_order, from_index, from_index-next}

-- ---- the kinds of all items come first

pub nodes_from-integers : (params : Parameters) (at : Position) (value : Data) (values : List Value) → as_array value ≡ Some (items_view values)
    → are_integers values ≡ true → nodes_from params at value ≡ each_node params at (items_view values)
unfolding nodes_from
nodes_from-integers params at value values is all =
    rw is (ap (λ (found : Read (List ℕ)). found >>= (λ numbers. Ok (set_of numbers))) (integers_in_order _ _ at values all))

pub nodes_from-others : (params : Parameters) (at : Position) (value : Data) (values : List Value) → as_array value ≡ Some (items_view values)
    → are_integers values ≡ false → nodes_from params at value ≡ Err (WrongKind at.table at.place at.name)
unfolding nodes_from
nodes_from-others params at value values is none = rw (is, each_of-none as_integer values none) refl

-- ---- the set grows

-- the nodes so far and those with the numbers that are left
abbrev with_numbers : Nodes → List ℕ → Nodes
with_numbers nodes numbers = those_where (λ i. has nodes i || list_any (λ number. number == i) numbers)

abbrev pub joined : Nodes → Read (List ℕ) → Read Nodes
joined nodes rest = rest >>= (λ numbers. Ok (with_numbers nodes numbers))

none_and : (a b : Bool) → a ≡ false → b ≡ (a || b)
none_and a b h = rw h refl

pub joined-none : (nodes : Nodes) → ((i : ℕ) → has nodes i ≡ false) → (rest : Read (List ℕ)) → (rest >>= (λ numbers. Ok (set_of numbers))) ≡ joined nodes rest
joined-none nodes none (Err fault) = refl
joined-none nodes none (Ok numbers) =
    ap Ok (those_where-ext _ _ (λ i below. none_and (has nodes i) (list_any (λ number. number == i) numbers) (none i)))

one_more : (a b : Bool) (n i : ℕ) → (a || (n == i || b)) ≡ ((a || i == n) || b)
one_more true b n i = refl
one_more false true n i = grind (arith, nat_tests)
one_more false false n i = grind (arith, nat_tests)

joined-more : (old new : Nodes) (number : ℕ) → ((i : ℕ) → has new i ≡ (has old i || i == number)) → (rest : Read (List ℕ))
    → joined old (rest >>= (λ others. Ok (number ∷ others))) ≡ joined new rest
joined-more old new number more (Err fault) = refl
joined-more old new number more (Ok numbers) =
    ap Ok (those_where-ext _ _ (λ i below.
    one_more (has old i) (list_any (λ n. n == i) numbers) number i ∙ ap (λ t. t || list_any (λ n. n == i) numbers) (sym (more i))))

-- one more item that is a number
pub joined-good : (read : Data → Read ℕ) (values : List Value) (i : ℕ) (value : Value) (old new : Nodes) (number : ℕ) → i < length values → value ≡ get_or values i value
    → read (view value) ≡ Ok number → ((i : ℕ) → has new i ≡ (has old i || i == number)) → joined old (from_index read values i) ≡ joined new (from_index read values (i + 1))
joined-good read values i value old new number here is good more =
    ap (joined old) (from_index-next read values i value here is ∙ rw good refl) ∙ joined-more old new number more (from_index read values (i + 1))

one_below : (i number : ℕ) (old : Bool) → number < most_nodes → (old ≡ true → i < most_nodes) → (old || i == number) ≡ true → i < most_nodes
one_below i number true small below h = below refl
one_below i number false small below h = grind (arith, nat_tests)

and_none : (a : Bool) → (a || false) ≡ a
and_none true = refl
and_none false = refl

below_test : (i : ℕ) (t : Bool) → (t ≡ true → i < most_nodes) → t ≡ (nat_lt i most_nodes && t)
below_test i true below = sym (ap (λ b. b && true) (lt-ltb i most_nodes (below refl)))
below_test i false below = elim (nat_lt i most_nodes) as (λ b. false ≡ (b && false)) [ true ↦ refl | false ↦ refl ]

-- after the last item
pub joined-all : (read : Data → Read ℕ) (values : List Value) (nodes : Nodes) → AllBelow most_nodes nodes → joined nodes (from_index read values (length values)) ≡ Ok nodes
joined-all read values nodes below =
    let same : nodes ≡ those_where (has nodes) = same_as_those_where nodes (has nodes) (λ i. below_test i (has nodes i) (below i)) in
    rw (drop-length values) (ap Ok (those_where-ext _ (has nodes) (λ i small. and_none (has nodes i)) ∙ sym same))

-- an inserted node is one that there can be
pub AllBelow-insert : (old new : Nodes) (number : ℕ) → number < most_nodes → ((i : ℕ) → has new i ≡ (has old i || i == number)) → AllBelow most_nodes old → AllBelow most_nodes new
AllBelow-insert old new number small more below i h = one_below i number (has old i) small (below i) (sym (more i) ∙ h)

pub AllBelow-none : (nodes : Nodes) → ((i : ℕ) → has nodes i ≡ false) → AllBelow most_nodes nodes
AllBelow-none nodes none i h = absurd (false≢true (sym (none i) ∙ h))

-- ---- none and all

both_below : (i nodes : ℕ) → nodes ≤ most_nodes → nat_lt i nodes ≡ (nat_lt i most_nodes && nat_lt i nodes)
both_below i nodes few = grind (arith, nat_tests)

-- the set that has every node of the bus, of which there are so many
pub all-all_nodes : (params : Parameters) (count : ℕ) (nodes : Nodes) → count ≡ params.nodes → count ≤ most_nodes → ((i : ℕ) → has nodes i ≡ nat_lt i count) → nodes ≡ all_nodes params
all-all_nodes params count nodes same few all = same_as_those_where nodes (λ i. nat_lt i params.nodes) (rw (← same) (λ i. all i ∙ both_below i count few))
