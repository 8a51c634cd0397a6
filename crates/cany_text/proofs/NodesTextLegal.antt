-- The sets that a text gives have nodes of the bus alone.
use Rattle.std.proofs.Common.{◌≡◌, ℕ, ◌-◌, ◌<◌, ◌≤◌, ◌==◌, Bool, true, false, ◌||◌, ◌&&◌, nat_lt, List, [], ◌∷◌, refl, sym, ◌∙◌, arith}
use Rattle.std.specs.Prelude.{All, Ok}
use Rattle.std.specs.List.{list_any}
use Rattle.std.proofs.lemmas.Bool.{and_parts, false≢true}
use Rattle.std.proofs.lemmas.Bool.Decides.{nat_tests}
use Rattle.std.proofs.lemmas.List.Elements.{All-nil, All-head, All-tail}
use Rattle.toml.specs.Data.{Data, get_member}
use Rattle.cany_base.specs.Limits.{most_nodes}
use Rattle.cany_base.specs.Nodes.{Nodes, AllBelow}
use Rattle.cany_base.proofs.NodesFacts.{has-those_where}
use Rattle.cany_base.specs.Params.{Parameters, IsInRange}
use Rattle.cany_text.specs.declared.scenario_fault.KeyName.{KeyName}
use Rattle.cany_text.specs.declared.scenario_fault.Position.{Position}
use Rattle.cany_text.specs.NodesText.{set_of, nodes_from, all_nodes}
use Rattle.cany_text.specs.TextNames.{key_name}
use Rattle.cany_text.specs.TomlKeys.{Entry, optional, position_of, numbers_from}
use Rattle.cany_text.proofs.TomlSteps.{bind_ok, same_ok, numbers_from-range, optional-holds}

-- ---- numbers

one_more_below : (bound number node : ℕ) (among : Bool) → number < bound → (among ≡ true → node < bound)
    → (number == node || among) ≡ true → node < bound
one_more_below bound number node true here rest h = rest refl
one_more_below bound number node false here rest h = grind (arith, nat_tests)

among_below : (bound : ℕ) (numbers : List ℕ) (node : ℕ) → All (λ number. number < bound) numbers
    → list_any (λ number. number == node) numbers ≡ true → node < bound
among_below bound [] node all h = absurd (false≢true h)
among_below bound (number ∷ rest) node all h =
    let IsBelow : ℕ → Type 0 = λ n. n < bound in
    one_more_below bound number node (list_any (λ n. n == node) rest) (All-head IsBelow number rest all)
    (among_below bound rest node (All-tail IsBelow number rest all)) h

set_of-below : (bound : ℕ) (numbers : List ℕ) → All (λ number. number < bound) numbers → AllBelow bound (set_of numbers)
set_of-below bound numbers all node h =
    let tests = sym (has-those_where (λ n. list_any (λ number. number == n) numbers) node) ∙ h in
    among_below bound numbers node all (and_parts (nat_lt node most_nodes) _ tests).1

-- ---- an array of them

all_below : (count : ℕ) → 1 ≤ count → (numbers : List ℕ) → All (λ n. (0 ≤ n) × (n ≤ count - 1)) numbers
    → All (λ number. number < count) numbers
all_below count some numbers all i d within = let r = all i d within in omega (arith, r)

nodes_from-below : (p : Parameters) → IsInRange p → (at : Position) (value : Data) (nodes : Nodes) → nodes_from p at value ≡ Ok nodes
    → AllBelow p.nodes nodes
unfolding nodes_from
nodes_from-below p r at value nodes h =
    let numbers = bind_ok (numbers_from 0 (p.nodes - 1) at value) _ nodes h in
    let made = same_ok (set_of numbers.0) nodes numbers.2 in
    let all = numbers_from-range 0 (p.nodes - 1) at value numbers.0 numbers.1 in
    let n = r.nodes in
    rw (← made) (set_of-below p.nodes numbers.0 (all_below p.nodes (omega (arith, n)) numbers.0 all))

-- at a key, where its default has nodes of the bus alone
pub nodes_at-below : (p : Parameters) → IsInRange p → (default : Nodes) → AllBelow p.nodes default
    → (name : KeyName) (entry : Entry) (nodes : Nodes)
    → optional (nodes_from p) default name entry ≡ Ok nodes → AllBelow p.nodes nodes
nodes_at-below p r default below name entry nodes h =
    let at = position_of name entry in
    optional-holds (AllBelow p.nodes) (nodes_from p at) default below (nodes_from-below p r at)
    (get_member (key_name name) entry.members) nodes h

-- ---- the two defaults

pub nobody-below : (p : Parameters) → AllBelow p.nodes (set_of [])
nobody-below p = set_of-below p.nodes [] (All-nil _)

below_from_tests : (node nodes : ℕ) → (nat_lt node most_nodes && nat_lt node nodes) ≡ true → node < nodes
below_from_tests node nodes h = grind (arith, nat_tests)

pub all_nodes-below : (p : Parameters) → AllBelow p.nodes (all_nodes p)
all_nodes-below p node h = below_from_tests node p.nodes (sym (has-those_where (λ n. nat_lt n p.nodes) node) ∙ h)
