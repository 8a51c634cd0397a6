-- A set that is emptied node by node.
use Rattle.std.proofs.Common.{◌≡◌, ◌≢◌, ℕ, zero, suc, ◌+◌, ◌<◌, ◌≤◌, ◌==◌, ◌&&◌, Bool, true, false, not, IsTrue, cond, inl, inr, ap, sym, ◌∙◌, arith, refl}
use Rattle.std.proofs.lemmas.Bool.{cases_eq, eq-eqb, ne_eqb, and_right, and_parts}

-- how many of the numbers below n pass the test
unfoldable pub left : (ℕ → Bool) → ℕ → ℕ
left test zero = 0
left test (suc n) = left test n + cond (test n) 1 0

-- the node is taken out
abbrev pub IsWithout : (ℕ → Bool) → ℕ → (ℕ → Bool) → Type 0
IsWithout old node new = (i : ℕ) → new i ≡ (old i && not (i == node))

and_true : (b : Bool) → (b && true) ≡ b
and_true true = refl
and_true false = refl

pub taken_out : (old new : ℕ → Bool) (node : ℕ) → IsWithout old node new → new node ≡ false
taken_out old new node out = out node ∙ ap (λ b. old node && not b) (eq-eqb node node refl) ∙ and_right (old node) false refl

pub left_in : (old new : ℕ → Bool) (node i : ℕ) → IsWithout old node new → i ≢ node → new i ≡ old i
left_in old new node i out other = out i ∙ ap (λ b. old i && not b) (ne_eqb i node other) ∙ and_true (old i)

pub was_in : (old new : ℕ → Bool) (node i : ℕ) → IsWithout old node new → IsTrue (new i) → IsTrue (old i)
was_in old new node i out h = (and_parts (old i) (not (i == node)) (sym (out i) ∙ h)).0

same_left : (old new : ℕ → Bool) (node n : ℕ) → IsWithout old node new → n ≤ node → left new n ≡ left old n
unfolding left
same_left old new node zero out far = refl
same_left old new node (suc n) out far =
    let other : n ≢ node = λ e. omega (arith, e, far) in
    rw (left_in old new node n out other, same_left old new node n out (omega (arith, far))) refl

-- one less is left
pub one_less : (old new : ℕ → Bool) (node n : ℕ) → IsWithout old node new → IsTrue (old node) → node < n → left new n < left old n
unfolding left
one_less old new node zero out has near = omega (arith, near)
one_less old new node (suc n) out has near = elim (cases_eq n node) [
  | inl at ↦
      let same : left new n ≡ left old n = same_left old new node n out (omega (arith, at)) in
      let here : new n ≡ false = ap new at ∙ taken_out old new node out in
      let there : old n ≡ true = ap old at ∙ has in
      rw (here, there) (omega (arith, same))
  | inr other ↦
      let less : left new n < left old n = one_less old new node n out has (omega (arith, near, other)) in
      rw (left_in old new node n out other) (omega (arith, less))
]
