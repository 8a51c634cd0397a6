-- A set that is filled by going over the nodes.
use Rattle.std.proofs.Common.{◌≡◌, ◌≢◌, ℕ, ◌≤◌, ◌+◌, ◌==◌, ◌&&◌, ◌||◌, Bool, true, false, nat_lt, refl, ap, sym, ◌∙◌, arith, inl, inr}
use Rattle.std.proofs.lemmas.Bool.{cases_lt, cases_eq, lt-ltb, le-ltb, eq-eqb, ne_eqb}
use Rattle.cany_base.specs.Limits.{most_nodes}
use Rattle.cany_base.specs.Nodes.{Nodes, has, nobody, those_where}
use Rattle.cany_base.proofs.NodesFacts.{has_none, same_as_those_where}

-- the set has the nodes below i at which the test holds
abbrev pub SetSoFar : Nodes → ℕ → (ℕ → Bool) → Type 0
SetSoFar set i test = (k : ℕ) → has set k ≡ (nat_lt k i && test k)

pub so_far_none : (set : Nodes) (test : ℕ → Bool) → set ≡ nobody → SetSoFar set 0 test
so_far_none set test e k = ap (λ s. has s k) e ∙ has_none k ∙ sym (ap (λ b. b && test k) (le-ltb k 0 (omega arith)))

here : (o n t p e l m : Bool) → o ≡ (l && p) → n ≡ (o || (t && e)) → t ≡ p → e ≡ true → l ≡ false → m ≡ true → n ≡ (m && p)
here o n t p e l m so step same at below next =
    rw (step, so, same, at, below, next) (elim p as (λ b. (b && true) ≡ b) [ true ↦ refl | false ↦ refl ])

elsewhere : (o n t p e l m : Bool) → o ≡ (l && p) → n ≡ (o || (t && e)) → e ≡ false → m ≡ l → n ≡ (m && p)
elsewhere o n t p e l m so step at next =
    rw (step, so, at, next) (elim l as (λ a. ((a && p) || (t && false)) ≡ (a && p)) [
      | true ↦ elim p as (λ b. (b || (t && false)) ≡ b) [ true ↦ refl | false ↦ elim t as (λ c. (c && false) ≡ false) [ true ↦ refl | false ↦ refl ] ]
      | false ↦ elim t as (λ c. (c && false) ≡ false) [ true ↦ refl | false ↦ refl ]
    ])

same_below : (k i : ℕ) → k ≢ i → nat_lt k (i + 1) ≡ nat_lt k i
same_below k i apart = elim (cases_lt k i) [
  | inl below ↦ lt-ltb k (i + 1) (omega arith) ∙ sym (lt-ltb k i below)
  | inr above ↦ le-ltb k (i + 1) (omega (arith, apart)) ∙ sym (le-ltb k i above)
]

pub so_far_more : (old new : Nodes) (i : ℕ) (test : ℕ → Bool) (t : Bool) → SetSoFar old i test
    → ((k : ℕ) → has new k ≡ (has old k || (t && k == i))) → t ≡ test i → SetSoFar new (i + 1) test
so_far_more old new i test t so step e k = elim (cases_eq k i) [
  | inl at ↦ here (has old k) (has new k) t (test k) (k == i) (nat_lt k i) (nat_lt k (i + 1)) (so k) (step k) (e ∙ ap test (sym at)) (eq-eqb k i at) (le-ltb k i (omega arith)) (lt-ltb k (i + 1) (omega arith))
  | inr apart ↦ elsewhere (has old k) (has new k) t (test k) (k == i) (nat_lt k i) (nat_lt k (i + 1)) (so k) (step k) (ne_eqb k i apart) (same_below k i apart)
]

both_false : (a b : Bool) → (a && false) ≡ (b && false)
both_false true true = refl
both_false true false = refl
both_false false true = refl
both_false false false = refl

-- a test that fails from n on, of most_nodes nodes at most
pub widened : (n k : ℕ) (test : ℕ → Bool) → n ≤ most_nodes → ((k : ℕ) → n ≤ k → test k ≡ false) → (nat_lt k n && test k) ≡ (nat_lt k most_nodes && test k)
widened n k test short past = elim (cases_lt k n) [
  | inl below ↦ ap (λ b. b && test k) (lt-ltb k n below ∙ sym (lt-ltb k most_nodes (omega arith)))
  | inr above ↦ rw (past k above) (both_false (nat_lt k n) (nat_lt k most_nodes))
]

pub so_far_all : (set : Nodes) (n : ℕ) (test : ℕ → Bool) → SetSoFar set n test → n ≤ most_nodes → ((k : ℕ) → n ≤ k → test k ≡ false) → set ≡ those_where test
so_far_all set n test so short past = same_as_those_where set test (λ k. so k ∙ widened n k test short past)

pub so_far_has : (set : Nodes) (n : ℕ) (test : ℕ → Bool) → SetSoFar set n test → ((k : ℕ) → n ≤ k → test k ≡ false) → (k : ℕ) → has set k ≡ test k
so_far_has set n test so past k = elim (cases_lt k n) [
  | inl below ↦ so k ∙ ap (λ b. b && test k) (lt-ltb k n below)
  | inr above ↦ so k ∙ ap (λ b. b && test k) (le-ltb k n above) ∙ sym (past k above)
]
