-- Slots of a membership cycle, one after another.
use Rattle.std.specs.Prelude.{nat_lt, nat_le}
use Rattle.std.proofs.Common.{◌≡◌, ℕ, suc, ◌+◌, ◌*◌, ◌/◌, ◌%◌, ◌<◌, ◌≤◌, inl, inr, ◌==◌, ◌&&◌, true, false, refl, ap, sym, ◌∙◌, arith}
use Rattle.std.proofs.lemmas.Bool.{and_from, and_parts, cases_Bool, cases_lt, eq-eqb, eqb-true, false≢true, le-leb, leb-true, lt-ltb, ltb-true}
use Rattle.std.proofs.lemmas.Nat.{div-add-mod', div-mul-add, mod-mul-add, mod_below}
use Rattle.cany_base.specs.Params.{Parameters}
use Rattle.cany_base.specs.Scenario.{ScenarioParts, IsLegalScenario}
use Rattle.cany_base.specs.Cycles.{cycle_of, is_end, is_exchange, is_start}

-- vectors are exchanged, and no longer than a cycle has slots
pub record HasCycles (p : Parameters) : Type 0 where
  pub exchanged : 0 < p.bound
  pub long : p.bound < p.cycle

pub has_cycles : (scenario : ScenarioParts) → IsLegalScenario scenario → HasCycles scenario.params
has_cycles scenario legal = record {
  exchanged = omega (arith, legal.in_range.bound.0);
  long = omega (arith, legal.in_range.bound.0, legal.formulas.cycle);
}

-- ---- the slot after another one

-- in the same cycle
next_in : (c s : ℕ) → s % c + 1 < c → (suc s / c ≡ s / c) × (suc s % c ≡ s % c + 1)
next_in c s more =
    let next : suc s ≡ s / c * c + (s % c + 1) = omega (arith, div-add-mod' s c) in
    (ap (λ n. n / c) next ∙ div-mul-add (s / c) c (s % c + 1) more, ap (λ n. n % c) next ∙ mod-mul-add (s / c) c (s % c + 1) more)

-- in the next one
next_out : (c s : ℕ) → 0 < c → s % c + 1 ≡ c → suc s % c ≡ 0
next_out c s some last =
    let whole : (s / c + 1) * c ≡ s / c * c + c = grind arith in
    let next : suc s ≡ (s / c + 1) * c + 0 = omega (arith, div-add-mod' s c, last, whole) in
    ap (λ n. n % c) next ∙ mod-mul-add (s / c + 1) c 0 some

module _ (p : Parameters) (cycles : HasCycles p) (s : ℕ) where
  below : s % p.cycle < p.cycle
  below = mod_below s p.cycle (omega (arith, cycles.long))

  -- a slot after which vectors are exchanged lies in the cycle of the next one, before the end
  in_same : is_exchange p (suc s) ≡ true → (suc s / p.cycle ≡ s / p.cycle) × (s % p.cycle + 1 ≤ p.bound) × (0 < s / p.cycle)
  in_same h =
      let parts = and_parts (nat_lt 0 (suc s % p.cycle) && nat_le (suc s % p.cycle) p.bound) (nat_lt 0 (suc s / p.cycle)) h in
      let inner = and_parts (nat_lt 0 (suc s % p.cycle)) (nat_le (suc s % p.cycle) p.bound) parts.0 in
      let after : 0 < suc s % p.cycle = ltb-true 0 (suc s % p.cycle) inner.0 in
      let within : suc s % p.cycle ≤ p.bound = leb-true (suc s % p.cycle) p.bound inner.1 in
      let first : 0 < suc s / p.cycle = ltb-true 0 (suc s / p.cycle) parts.1 in
      elim (cases_lt (s % p.cycle + 1) p.cycle) [
        | inl more ↦
            let next = next_in p.cycle s more in
            (next.0, omega (arith, next.1, within), omega (arith, next.0, first))
        | inr last ↦ absurd (omega (arith, next_out p.cycle s (omega (arith, cycles.long)) (omega (arith, below, last)), after))
      ]

  pub same_cycle : is_exchange p (suc s) ≡ true → cycle_of p (suc s) ≡ cycle_of p s
  same_cycle h = (in_same h).0

  pub no_end : is_exchange p (suc s) ≡ true → is_end p s ≡ false
  no_end h = elim (cases_Bool (is_end p s)) [
    | inl end ↦
        let at : s % p.cycle ≡ p.bound = eqb-true (s % p.cycle) p.bound (and_parts (s % p.cycle == p.bound) (nat_lt 0 (s / p.cycle)) end).0 in
        absurd (omega (arith, at, (in_same h).1))
    | inr none ↦ none
  ]

  -- where the slot is not that of the start, vectors are exchanged in it too
  pub exchanged_before : is_exchange p (suc s) ≡ true → is_start p s ≡ false → is_exchange p s ≡ true
  exchanged_before h none =
      let first : nat_lt 0 (s / p.cycle) ≡ true = lt-ltb 0 (s / p.cycle) (in_same h).2 in
      let before : nat_le (s % p.cycle) p.bound ≡ true = le-leb (s % p.cycle) p.bound (omega (arith, (in_same h).1)) in
      elim (cases_lt 0 (s % p.cycle)) [
        | inl after ↦
            and_from (nat_lt 0 (s % p.cycle) && nat_le (s % p.cycle) p.bound) (nat_lt 0 (s / p.cycle))
            (and_from (nat_lt 0 (s % p.cycle)) (nat_le (s % p.cycle) p.bound) (lt-ltb 0 (s % p.cycle) after) before) first
        | inr at ↦
            let start : is_start p s ≡ true = and_from (s % p.cycle == 0) (nat_lt 0 (s / p.cycle)) (eq-eqb (s % p.cycle) 0 (omega (arith, at))) first in
            absurd (false≢true (sym none ∙ start))
      ]

  -- the slot of the start of the next slot's cycle
  pub first_slot : is_exchange p (suc s) ≡ true → is_start p s ≡ true → s ≡ cycle_of p (suc s) * p.cycle
  first_slot h start =
      let at : s % p.cycle ≡ 0 = eqb-true (s % p.cycle) 0 (and_parts (s % p.cycle == 0) (nat_lt 0 (s / p.cycle)) start).0 in
      let whole : s ≡ s / p.cycle * p.cycle = omega (arith, div-add-mod' s p.cycle, at) in
      whole ∙ ap (λ k. k * p.cycle) (sym (in_same h).0)

  -- ---- in the slot of a start

  at_start : is_start p s ≡ true → s % p.cycle ≡ 0
  at_start start = eqb-true (s % p.cycle) 0 (and_parts (s % p.cycle == 0) (nat_lt 0 (s / p.cycle)) start).0

  -- no vectors are exchanged
  pub start_no_exchange : is_start p s ≡ true → is_exchange p s ≡ false
  start_no_exchange start = rw (at_start start) refl

  -- and no cycle ends
  pub start_no_end : is_start p s ≡ true → is_end p s ≡ false
  start_no_end start = elim (cases_Bool (is_end p s)) [
    | inl end ↦
        let at : s % p.cycle ≡ p.bound = eqb-true (s % p.cycle) p.bound (and_parts (s % p.cycle == p.bound) (nat_lt 0 (s / p.cycle)) end).0 in
        absurd (omega (arith, at, at_start start, cycles.exchanged))
    | inr none ↦ none
  ]
