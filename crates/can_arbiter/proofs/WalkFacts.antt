-- The walk bit by bit leaves those of the least word.
use Rattle.std.proofs.Common.{◌≡◌, ℕ, zero, suc, ◌+◌, ◌*◌, ◌^◌, ◌<◌, ◌≤◌, ◌/◌, ◌⊎◌, inl, inr, Bool, false, IsTrue, arith, sym, ◌∙◌, refl}
use Rattle.std.specs.Int.{bit_at}
use Rattle.std.proofs.lemmas.Nat.{shr-shr}
use Rattle.std.proofs.lemmas.Bool.{cases_lt, cases_eq, false≢true, false_from_ne_true}
use Rattle.can_arbiter.specs.Walk.{Leads, IsWalked, IsWalk, GoesOn}

-- the bits from a place on, and those from the next
next_bits : (n place : ℕ) → n / 2 ^ place ≡ 2 * (n / 2 ^ (place + 1)) + bit_at n place
next_bits n place = omega (arith, shr-shr n place 1)

bit_of : (n place : ℕ) → bit_at n place < 2
bit_of n place = omega arith

-- who leads in more bits leads in fewer
leads_before : (offering : ℕ → Bool) (word : ℕ → ℕ) (place i : ℕ) → Leads offering word place i → Leads offering word (place + 1) i
leads_before offering word place i h = record {
  offers = h.offers;
  least = λ k o. omega (arith, h.least k o, next_bits (word i) place, next_bits (word k) place, bit_of (word i) place, bit_of (word k) place);
}

-- who has what a leader has leads too
leads_too : (offering : ℕ → Bool) (word : ℕ → ℕ) (place i k : ℕ) → Leads offering word place i → IsTrue (offering k) → word k / 2 ^ place ≤ word i / 2 ^ place → Leads offering word place k
leads_too offering word place i k h o same = record {
  offers = o;
  least = λ m p. omega (arith, h.least m p);
}

module _ (offering sending : ℕ → Bool) (word : ℕ → ℕ) (place : ℕ) (walked : IsWalked offering sending word (place + 1)) where
  -- who leads so far and goes on leads in one bit more
  goes_on : (i : ℕ) → IsTrue (sending i) → GoesOn sending word place i → Leads offering word place i
  goes_on i s on = record { offers = (walked.leads i s).offers; least = λ k o. at_most k o (cases_lt (word i / 2 ^ (place + 1)) (word k / 2 ^ (place + 1))) on }
    where
      at_most : (k : ℕ) → IsTrue (offering k) → (word i / 2 ^ (place + 1) < word k / 2 ^ (place + 1)) ⊎ (word k / 2 ^ (place + 1) ≤ word i / 2 ^ (place + 1))
          → GoesOn sending word place i → word i / 2 ^ place ≤ word k / 2 ^ place
      at_most k o (inl lower) on = omega (arith, next_bits (word i) place, next_bits (word k) place, bit_of (word i) place)
      at_most k o (inr same) (inl dominant) = omega (arith, (walked.leads i s).least k o, next_bits (word i) place, next_bits (word k) place, dominant)
      at_most k o (inr same) (inr recessive) =
          let k_sends : IsTrue (sending k) = walked.stays k (leads_too offering word (place + 1) i k (walked.leads i s) o same) in
          omega (arith, (walked.leads i s).least k o, recessive k k_sends, next_bits (word i) place, next_bits (word k) place, bit_of (word i) place)

  -- who leads in one bit more goes on
  leads_on : (i : ℕ) → Leads offering word place i → GoesOn sending word place i
  leads_on i h = elim (cases_eq (bit_at (word i) place) 0) [
    | inl dominant ↦ inl dominant
    | inr other ↦ inr (λ k s.
        let k_leads : Leads offering word (place + 1) k = walked.leads k s in
        omega (
          arith,
          other,
          h.least k k_leads.offers,
          k_leads.least i h.offers,
          next_bits (word i) place,
          next_bits (word k) place,
          bit_of (word i) place,
          bit_of (word k) place,
        ))
  ]

  -- where nobody goes on, nobody sent
  none_on : ((i : ℕ) → IsTrue (sending i) → GoesOn sending word place i → ⊥) → (i : ℕ) → sending i ≡ false
  none_on stop i = false_from_ne_true (sending i) (λ s. stop i s (inr (λ k t. all_recessive k t (cases_eq (bit_at (word k) place) 0))))
    where
      all_recessive : (k : ℕ) → IsTrue (sending k) → (bit_at (word k) place ≡ 0) ⊎ (bit_at (word k) place ≡ 0 → ⊥) → bit_at (word k) place ≡ 1
      all_recessive k t (inl dominant) = absurd (stop k t (inl dominant))
      all_recessive k t (inr other) = omega (arith, other, bit_of (word k) place)

-- one bit more is walked
one_bit : (offering : ℕ → Bool) (word : ℕ → ℕ) (sending : ℕ → ℕ → Bool) (place : ℕ) → IsWalk offering word sending → place < 32
    → IsWalked offering (sending (place + 1)) word (place + 1) → IsWalked offering (sending place) word place
one_bit offering word sending place walk below walked = record {
  leads = λ i s. let before = (walk.stops place i below).0 s in goes_on offering (sending (place + 1)) word place walked i before.0 before.1;
  stays = λ i h. (walk.stops place i below).1 (walked.stays i (leads_before offering word place i h), leads_on offering (sending (place + 1)) word place walked i h);
  nobody = λ none. walked.nobody (none_on offering (sending (place + 1)) word place walked (λ i s on. false≢true (sym (none i) ∙ (walk.stops place i below).1 (s, on))));
}

-- before the first bit all send
all_send : (offering : ℕ → Bool) (word : ℕ → ℕ) (sending : ℕ → ℕ → Bool) → IsWalk offering word sending → ((i : ℕ) → word i < 2 ^ 32)
    → IsWalked offering (sending 32) word 32
all_send offering word sending walk small = record {
  leads = λ i s. record { offers = sym (walk.begins i) ∙ s; least = λ k o. omega (arith, small i) };
  stays = λ i h. walk.begins i ∙ h.offers;
  nobody = λ none i. sym (walk.begins i) ∙ none i;
}

-- `left` places are left
after_bits : (offering : ℕ → Bool) (word : ℕ → ℕ) (sending : ℕ → ℕ → Bool) (gone left : ℕ) → IsWalk offering word sending → ((i : ℕ) → word i < 2 ^ 32)
    → gone + left ≡ 32 → IsWalked offering (sending left) word left
after_bits offering word sending zero left walk small e =
    let all : left ≡ 32 = omega (arith, e) in
    rw all (all_send offering word sending walk small)
after_bits offering word sending (suc gone) left walk small e =
    one_bit offering word sending left walk (omega (arith, e)) (after_bits offering word sending gone (left + 1) walk small (omega (arith, e)))

pub walk_leaves : (offering : ℕ → Bool) (word : ℕ → ℕ) (sending : ℕ → ℕ → Bool) → IsWalk offering word sending → ((i : ℕ) → word i < 2 ^ 32)
    → IsWalked offering (sending 0) word 0
walk_leaves offering word sending walk small = after_bits offering word sending 32 0 walk small refl
