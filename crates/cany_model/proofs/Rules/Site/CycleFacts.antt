-- Membership cycles: where a cycle starts, and where vectors are exchanged.
use Rattle.std.proofs.Common.{◌≡◌, ℕ, suc, ◌+◌, ◌-◌, ◌*◌, ◌/◌, ◌%◌, ◌<◌, ◌≤◌, ◌==◌, ◌&&◌, Bool, true, false, nat_lt, nat_le, refl, ap, arith, div-mul-le_self}
use Rattle.std.proofs.Math.Nat.{div-lt_iff_lt-mul}
use Rattle.std.proofs.lemmas.Bool.{and_from, and_parts, eq-eqb, eqb-true, leb-true, lt-ltb, ltb-true, ne_eqb}
use Rattle.std.proofs.lemmas.Nat.{div-add-mod', le-div}
use Rattle.cany_base.specs.Params.{Parameters}
use Rattle.cany_base.specs.Cycles.{cycle_of, is_end, is_exchange, is_start}

-- a slot comes not before the start of its cycle
pub cycle_before : (p : Parameters) (slot : ℕ) → cycle_of p slot * p.cycle ≤ slot
cycle_before p slot = div-mul-le_self slot p.cycle

-- a cycle starts in the slot
pub start_slot : (p : Parameters) (slot : ℕ) → is_start p slot ≡ true → slot ≡ cycle_of p slot * p.cycle
start_slot p slot h =
    let parts = and_parts (slot % p.cycle == 0) (nat_lt 0 (cycle_of p slot)) h in
    omega (arith, div-add-mod' slot p.cycle, eqb-true (slot % p.cycle) 0 parts.0)

-- vectors of the cycle are exchanged in the slot
pub record IsExchangeOf (p : Parameters) (k slot : ℕ) : Type 0 where
  pub cycle : 0 < k
  pub after : k * p.cycle < slot
  pub until : slot ≤ k * p.cycle + p.bound

pub exchange_slot : (p : Parameters) (slot : ℕ) → is_exchange p slot ≡ true → IsExchangeOf p (cycle_of p slot) slot
exchange_slot p slot h =
    let outer = and_parts (nat_lt 0 (slot % p.cycle) && nat_le (slot % p.cycle) p.bound) (nat_lt 0 (cycle_of p slot)) h in
    let inner = and_parts (nat_lt 0 (slot % p.cycle)) (nat_le (slot % p.cycle) p.bound) outer.0 in
    let parts = div-add-mod' slot p.cycle in
    let some = ltb-true 0 (slot % p.cycle) inner.0 in
    let few = leb-true (slot % p.cycle) p.bound inner.1 in
    record { cycle = ltb-true 0 (cycle_of p slot) outer.1; after = omega (arith, parts, some); until = omega (arith, parts, few) }

-- the slot lies so far in its cycle
record IsPlaced (p : Parameters) (k q slot : ℕ) : Type 0 where
  cycle : cycle_of p slot ≡ k
  rest : slot % p.cycle ≡ q

placed : (p : Parameters) (k q slot : ℕ) → q < p.cycle → slot ≡ k * p.cycle + q → IsPlaced p k q slot
placed p k q slot short at =
    let some : 0 < p.cycle = omega (arith, short) in
    let parts = div-add-mod' slot p.cycle in
    let next : suc k * p.cycle ≡ k * p.cycle + p.cycle = grind arith in
    let below : slot / p.cycle < suc k = (div-lt_iff_lt-mul some).1 (omega (arith, at, short, next)) in
    let above : k ≤ slot / p.cycle = le-div k slot p.cycle some (omega (arith, at)) in
    let cycle : slot / p.cycle ≡ k = omega (arith, below, above) in
    record { cycle = cycle; rest = omega (arith, parts, at, ap (λ n. n * p.cycle) cycle) }

-- the first slot of a cycle is its start
pub in_start : (p : Parameters) (k slot : ℕ) → 0 < k → 0 < p.cycle → slot ≡ k * p.cycle → is_start p slot ≡ true
in_start p k slot cycle some at =
    let place = placed p k 0 slot some (omega (arith, at)) in
    and_from (slot % p.cycle == 0) (nat_lt 0 (cycle_of p slot)) (eq-eqb (slot % p.cycle) 0 place.rest)
    (lt-ltb 0 (cycle_of p slot) (omega (arith, place.cycle, cycle)))

-- a slot between the start of the cycle and the last of the exchange
pub record IsInside (p : Parameters) (k slot : ℕ) : Type 0 where
  pub cycle : cycle_of p slot ≡ k
  pub start : is_start p slot ≡ false
  pub last : is_end p slot ≡ false

pub in_exchange : (p : Parameters) (k slot : ℕ) → p.bound ≤ p.cycle → k * p.cycle < slot → slot < k * p.cycle + p.bound → IsInside p k slot
in_exchange p k slot short after before =
    let q : ℕ = slot - k * p.cycle in
    let place = placed p k q slot (omega (arith, short, after, before)) (omega (arith, after)) in
    record {
      cycle = place.cycle;
      start = no_and (slot % p.cycle == 0) (nat_lt 0 (cycle_of p slot))
          (ne_eqb (slot % p.cycle) 0 (λ e. omega (arith, e, place.rest, after)));
      last = no_and (slot % p.cycle == p.bound) (nat_lt 0 (cycle_of p slot))
          (ne_eqb (slot % p.cycle) p.bound (λ e. omega (arith, e, place.rest, after, before)));
    }
  where
    no_and : (a b : Bool) → a ≡ false → (a && b) ≡ false
    no_and a b none = rw none refl
