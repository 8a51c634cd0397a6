-- An idle notice in a slot in which no cycle starts or ends leads to nothing.
use Rattle.std.specs.Prelude.{nat_lt}
use Rattle.std.proofs.Common.{◌≡◌, ℕ, ◌+◌, ◌-◌, ◌*◌, ◌/◌, ◌%◌, ◌<◌, ◌≤◌, inl, inr, ◌==◌, true, false, List, ◌∷◌, length, Option, Some, None, IfSome, count_by, refl, ap, sym, ◌∙◌, arith}
use Rattle.std.proofs.lemmas.Bool.{and_parts, cases_Bool, eqb-true, ltb-true}
use Rattle.std.proofs.lemmas.Nat.{div-add-mod', div-mul-add, mod-mul-add, mod_below}
use Rattle.cany_base.specs.declared.notice.NoticeKind.{NoticeKind}
use Rattle.cany_base.specs.declared.notice.NoticeKind.TheVariants.{Idle}
use Rattle.cany_base.specs.Nodes.{Nodes}
use Rattle.cany_base.specs.Params.{Parameters}
use Rattle.cany_base.specs.Scenario.{ScenarioParts}
use Rattle.cany_model.specs.Rules.Vectors.{brought, end_effects, exchange_at, is_vector_got, met, start_effects, vector_effects}
use Rattle.cany_base.specs.Cycles.{cycle_of, is_end, is_exchange, is_start}
use Rattle.cany_model.proofs.Among.{count-no}
use Rattle.cany_history.specs.History.{HistoryParts, IsExchangeOf, IsHistoryOf, Rests}
use Rattle.cany_history.specs.HistorySteps.{IsPlain}
use Rattle.cany_history.proofs.CycleFacts.{exchanged_before, has_cycles, same_cycle}
use Rattle.cany_history.proofs.PastFacts.{more_from_none}

-- ---- the slots until the next start or end

plain : (p : Parameters) (slot : ℕ) → (0 < slot / p.cycle → (0 < slot % p.cycle) × ((slot % p.cycle ≡ p.bound) → ⊥)) → IsPlain p slot
plain p slot h = (no_start, no_end)
  where
    no_start : is_start p slot ≡ false
    no_start = elim (cases_Bool (is_start p slot)) [
      | inl is ↦
          let parts = and_parts (slot % p.cycle == 0) (nat_lt 0 (slot / p.cycle)) is in
          let apart = h (ltb-true 0 (slot / p.cycle) parts.1) in
          absurd (omega (arith, apart.0, eqb-true (slot % p.cycle) 0 parts.0))
      | inr none ↦ none
    ]

    no_end : is_end p slot ≡ false
    no_end = elim (cases_Bool (is_end p slot)) [
      | inl is ↦
          let parts = and_parts (slot % p.cycle == p.bound) (nat_lt 0 (slot / p.cycle)) is in
          let apart = h (ltb-true 0 (slot / p.cycle) parts.1) in
          absurd (apart.1 (eqb-true (slot % p.cycle) p.bound parts.0))
      | inr none ↦ none
    ]

-- there is none before the first cycle
pub plain_first : (p : Parameters) (slot : ℕ) → slot < p.cycle → IsPlain p slot
plain_first p slot early =
    let whole : slot ≡ 0 * p.cycle + slot = omega arith in
    let first : slot / p.cycle ≡ 0 = ap (λ n. n / p.cycle) whole ∙ div-mul-add 0 p.cycle slot early in
    plain p slot (λ some. absurd (omega (arith, some, first)))

-- the place in its cycle of a slot that comes after another one of it
later_place : (c from slot : ℕ) → from ≤ slot → from % c + (slot - from) < c → slot % c ≡ from % c + (slot - from)
later_place c from slot after near =
    let is : slot ≡ from / c * c + (from % c + (slot - from)) = omega (arith, div-add-mod' from c, after) in
    ap (λ n. n % c) is ∙ mod-mul-add (from / c) c (from % c + (slot - from)) near

module _ (p : Parameters) (from slot : ℕ) (long : p.bound < p.cycle) (after : from ≤ slot) where
  -- nor after the start of a cycle, until it ends
  pub plain_exchange : 0 < from % p.cycle → from % p.cycle ≤ p.bound → slot < from + (p.bound - from % p.cycle) → IsPlain p slot
  plain_exchange first early before =
      let at : slot % p.cycle ≡ from % p.cycle + (slot - from) = later_place p.cycle from slot after (omega (arith, long, after, early, before)) in
      plain p slot (λ _. (omega (arith, at, first), λ end. omega (arith, at, end, after, early, before)))

  -- nor after its end, until the next one starts
  pub plain_rest : p.bound < from % p.cycle → slot < from + (p.cycle - from % p.cycle) → IsPlain p slot
  plain_rest late before =
      let within : from % p.cycle < p.cycle = mod_below from p.cycle (omega (arith, long)) in
      let at : slot % p.cycle ≡ from % p.cycle + (slot - from) = later_place p.cycle from slot after (omega (arith, within, after, before)) in
      plain p slot (λ _. (omega (arith, at, late), λ end. omega (arith, at, end, late)))

-- ---- an idle notice in such a slot

module _ (scenario : ScenarioParts) (i : ℕ) (past : List NoticeKind) (own : Option Nodes) (v : HistoryParts) (h : IsHistoryOf scenario i past own v) where
  idle_counts : (cycle : ℕ) → IsExchangeOf scenario.params cycle i past own v → IsExchangeOf scenario.params cycle i (Idle ∷ past) own v
  idle_counts cycle exchange = record {
    more = (more_from_none scenario.params.format cycle i own Idle refl, exchange.more);
    copies = same_copies own exchange.copies;
    sent = exchange.sent;
  }
    where
      same_copies : (o : Option Nodes) → IfSome o (λ x. v.copies ≡ count_by (is_vector_got scenario.params.format cycle x) past)
          → IfSome o (λ x. v.copies ≡ count_by (is_vector_got scenario.params.format cycle x) (Idle ∷ past))
      same_copies None h = tt
      same_copies (Some x) h = h ∙ sym (count-no (is_vector_got scenario.params.format cycle x) Idle past refl)

  idle_stands : is_start scenario.params (length past) ≡ false → IsHistoryOf scenario i (Idle ∷ past) own v
  idle_stands none = record {
    limits = h.limits;
    vector = h.vector;
    below = h.below;
    few = omega (arith, h.few);
    unread = λ cycle early. (refl, h.unread cycle (omega (arith, early)));
    exchange = λ exchanged.
        let cycles = has_cycles scenario h.limits.legal in
        let before : is_exchange scenario.params (length past) ≡ true = exchanged_before scenario.params cycles (length past) exchanged none in
        rw (same_cycle scenario.params cycles (length past) exchanged) (idle_counts (cycle_of scenario.params (length past)) (h.exchange before));
  }

  -- the value rests in a slot in which no cycle starts or ends
  pub rests : IsPlain scenario.params (length past) → Rests scenario i past own v
  unfolding exchange_at vector_effects end_effects start_effects brought met
  rests none = record {
    stands = idle_stands none.0;
    start = none.0;
    end = none.1;
    kept = refl;
    none = rw none.1 refl;
    effects = rw none.1 refl;
  }
