-- Sets of nodes that are made of others: what they are, when two are equal, and that they have
-- nodes below a bound alone.
use Rattle.std.specs.Cmp.{both_ways}
use Rattle.std.specs.Prelude.{nat_lt}
use Rattle.std.proofs.Common.{◌≡◌, ℕ, ◌<◌, ◌⊎◌, inl, inr, ◌==◌, ◌&&◌, ◌||◌, Bool, true, false, not, refl, ap, sym, ◌∙◌, subst}
use Rattle.std.proofs.lemmas.Bool.{cases_Bool, false≢true, lt-ltb, eqb-true, and_parts}
use Rattle.cany_base.specs.Limits.{most_nodes}
use Rattle.cany_base.specs.Nodes.{Nodes, AllBelow, has, nobody, those_where, meet, minus, plus, with_node}
use Rattle.cany_base.proofs.NodesFacts.{has-those_where, has_none, same_as_those_where, same_nodes, those_where-ext}

-- a set whose nodes all have places is that of those where the test holds that it meets
pub set_where : (nodes : Nodes) (test : ℕ → Bool) → AllBelow most_nodes nodes → ((i : ℕ) → has nodes i ≡ test i) → nodes ≡ those_where test
set_where nodes test below same =
    same_as_those_where nodes test (λ i. elim (cases_Bool (has nodes i)) [
      | inl is ↦
          let placed : nat_lt i most_nodes ≡ true = lt-ltb i most_nodes (below i is) in
          rw placed (same i)
      | inr not_in ↦
          let out : test i ≡ false = sym (same i) ∙ not_in in
          rw (not_in, out) (none (nat_lt i most_nodes))
    ])
  where
    none : (b : Bool) → false ≡ (b && false)
    none true = refl
    none false = refl

-- the test holds at each node of the set of those where it does
pub has_where : (test : ℕ → Bool) (i : ℕ) → has (those_where test) i ≡ true → test i ≡ true
has_where test i is = (and_parts (nat_lt i most_nodes) (test i) (sym (has-those_where test i) ∙ is)).1

-- where two sets meet, both have the nodes
pub meet_both : (a b : Nodes) (r : ℕ) → has (meet a b) r ≡ true → (has a r ≡ true) × (has b r ≡ true)
meet_both a b r h = and_parts (has a r) (has b r) (has_where (λ q. has a q && has b q) r h)

-- two sets of which each has the nodes of the other are equal
pub same_by_parts : (a b : Nodes) → ((i : ℕ) → has a i ≡ true → has b i ≡ true) → ((i : ℕ) → has b i ≡ true → has a i ≡ true) → a ≡ b
same_by_parts a b there back = same_nodes a b (λ i. both_ways (has a i) (has b i) (there i) (back i))

pub same_bits : (a b : Nodes) → a.bits ≡ b.bits → a ≡ b
same_bits a b same = ap (λ bits. record { bits = bits }) same

-- ---- one node more

pub has-with_node : (i node : ℕ) (nodes : Nodes) → i < most_nodes → has (with_node node nodes) i ≡ (has nodes i || i == node)
has-with_node i node nodes near = has-those_where (λ q. has nodes q || q == node) i ∙ (rw (lt-ltb i most_nodes near) refl)

or_twice : (b c : Bool) → ((b || c) || c) ≡ (b || c)
or_twice true c = refl
or_twice false true = refl
or_twice false false = refl

pub with_node_twice : (node : ℕ) (nodes : Nodes) → with_node node (with_node node nodes) ≡ with_node node nodes
with_node_twice node nodes =
    those_where-ext (λ i. has (with_node node nodes) i || i == node) (λ i. has nodes i || i == node) (λ i below.
    ap (λ b. b || i == node) (has-with_node i node nodes below) ∙ or_twice (has nodes i) (i == node))

-- ---- nodes below a bound

pub below_nobody : (bound : ℕ) → AllBelow bound nobody
below_nobody bound i is = absurd (false≢true (sym (has_none i) ∙ is))

-- the set of those where a test holds has nodes below a bound where the test holds below it alone
below_where : (bound : ℕ) (test : ℕ → Bool) → ((i : ℕ) → test i ≡ true → i < bound) → AllBelow bound (those_where test)
below_where bound test below i is = below i (has_where test i is)

pub below_minus : (bound : ℕ) (a b : Nodes) → AllBelow bound a → AllBelow bound (minus a b)
below_minus bound a b below = below_where bound _ (λ i is. below i (and_parts (has a i) (not (has b i)) is).0)

pub below_meet : (bound : ℕ) (a b : Nodes) → AllBelow bound a → AllBelow bound (meet a b)
below_meet bound a b below i is = below i (meet_both a b i is).0

either : (x y : Bool) → (x || y) ≡ true → (x ≡ true) ⊎ (y ≡ true)
either true y h = inl refl
either false y h = inr h

pub below_plus : (bound : ℕ) (a b : Nodes) → AllBelow bound a → AllBelow bound b → AllBelow bound (plus a b)
below_plus bound a b first second = below_where bound _ (λ i is. elim (either (has a i) (has b i) is) [
  | inl in_a ↦ first i in_a
  | inr in_b ↦ second i in_b
])

pub below_with : (bound : ℕ) (node : ℕ) (nodes : Nodes) → node < bound → AllBelow bound nodes → AllBelow bound (with_node node nodes)
below_with bound node nodes near below = below_where bound _ (λ i is. elim (either (has nodes i) (i == node) is) [
  | inl here ↦ below i here
  | inr at ↦ subst (λ n. n < bound) (sym (eqb-true i node at)) near
])
