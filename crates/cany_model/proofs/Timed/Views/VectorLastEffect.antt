-- Where a slot stands in a membership cycle, and the last effect that each part of the exchange of
-- vectors has there on a node's frame.
use Rattle.std.proofs.Common.{◌≡◌, ℕ, ◌+◌, ◌*◌, ◌/◌, ◌%◌, ◌<◌, ◌≤◌, ◌==◌, ◌&&◌, ◌≢◌, if◌then◌else◌, inl, inr, true, false, List, [], ◌∷◌, ◌++◌, length, Option, Some, None, nat_lt, nat_le, refl, ap, ◌∙◌, subst, arith}
use Rattle.std.proofs.lemmas.Bool.{and_from, and_left, cases_Bool, cond-false, cond-true, cond_both, le-leb, lt-ltb, ne_eqb}
use Rattle.std.proofs.lemmas.Nat.{div-mul-add, mod-mul-add}
use Rattle.cany_base.specs.declared.format.Format.{Format}
use Rattle.cany_base.specs.declared.notice.NoticeKind.{NoticeKind}
use Rattle.cany_base.specs.declared.notice.NoticeKind.TheVariants.{Idle, Got, Sent, Bad}
use Rattle.cany_base.specs.Nodes.{Nodes}
use Rattle.cany_base.specs.Params.{Parameters}
use Rattle.cany_model.specs.Bus.Frames.{Identity}
use Rattle.cany_model.specs.Rules.Effect.{Effect, Ask, Withdraw}
use Rattle.cany_model.specs.Rules.Vectors.{brought, end_effects, ended, exchange_at, is_covered, is_new, met, met_with, rha_frame, rha_of, start_effects, vector_effects, vector_in}
use Rattle.cany_base.specs.Cycles.{cycle_of, is_end, is_exchange, is_start}
use Rattle.cany_model.proofs.Bus.Identities.{same_identity_self}
use Rattle.cany_model.proofs.Timed.Views.VectorHeld.{other_identity}
use Rattle.cany_model.proofs.Timed.Common.LastEffect.{LastEffect, NoEffect, Asked, Withdrawn, later, last_effect, last_effect-append}

-- ---- slots of a cycle

-- a cycle that has a start, where vectors are exchanged within the cycle
pub record IsCycle (p : Parameters) (k : ℕ) : Type 0 where
  pub some : 0 < k
  pub exchanged : 0 < p.bound
  pub long : p.bound < p.cycle

-- the slot stands so far in the cycle
pub record IsAt (p : Parameters) (k n q : ℕ) : Type 0 where
  pub cycle : cycle_of p n ≡ k
  pub phase : n % p.cycle ≡ q

pub at_place : (p : Parameters) (k n q : ℕ) → n ≡ k * p.cycle + q → q < p.cycle → IsAt p k n q
at_place p k n q e below = record {
  cycle = ap (λ m. m / p.cycle) e ∙ div-mul-add k p.cycle q below;
  phase = ap (λ m. m % p.cycle) e ∙ mod-mul-add k p.cycle q below;
}

pub at_start : (p : Parameters) (k n q : ℕ) → IsAt p k n q → is_start p n ≡ (q == 0 && nat_lt 0 k)
at_start p k n q a = ap (λ m. m == 0 && nat_lt 0 (n / p.cycle)) a.phase ∙ ap (λ c. q == 0 && nat_lt 0 c) a.cycle

pub at_exchange : (p : Parameters) (k n q : ℕ) → IsAt p k n q → is_exchange p n ≡ (nat_lt 0 q && nat_le q p.bound && nat_lt 0 k)
at_exchange p k n q a =
    ap (λ m. nat_lt 0 m && nat_le m p.bound && nat_lt 0 (n / p.cycle)) a.phase ∙ ap (λ c. nat_lt 0 q && nat_le q p.bound && nat_lt 0 c) a.cycle

pub at_end : (p : Parameters) (k n q : ℕ) → IsAt p k n q → is_end p n ≡ (q == p.bound && nat_lt 0 k)
at_end p k n q a = ap (λ m. m == p.bound && nat_lt 0 (n / p.cycle)) a.phase ∙ ap (λ c. q == p.bound && nat_lt 0 c) a.cycle

pub exchange_in : (p : Parameters) (k n q : ℕ) → IsCycle p k → IsAt p k n q → 0 < q → q ≤ p.bound → is_exchange p n ≡ true
exchange_in p k n q c a some short =
    at_exchange p k n q a
    ∙ and_from (nat_lt 0 q && nat_le q p.bound) (nat_lt 0 k) (and_from (nat_lt 0 q) (nat_le q p.bound) (lt-ltb 0 q some) (le-leb q p.bound short))
    (lt-ltb 0 k c.some)

pub no_start : (p : Parameters) (k n q : ℕ) → IsAt p k n q → 0 < q → is_start p n ≡ false
no_start p k n q a some = at_start p k n q a ∙ and_left (q == 0) (nat_lt 0 k) (ne_eqb q 0 (λ z. omega (arith, z, some)))

pub no_end : (p : Parameters) (k n q : ℕ) → IsAt p k n q → q ≢ p.bound → is_end p n ≡ false
no_end p k n q a other = at_end p k n q a ∙ and_left (q == p.bound) (nat_lt 0 k) (ne_eqb q p.bound other)

-- ---- the last effects of the parts of the exchange

module _ (p : Parameters) (inc i : ℕ) (e : NoticeKind) (past : List NoticeKind) (old start : Option Nodes) where
  abbrev pub slot : ℕ
  slot = length past

  abbrev pub brings_now : Option Nodes
  brings_now = brought p slot e

  abbrev pub vector_part : List Effect
  vector_part = vector_effects p inc i slot (e ∷ past) old brings_now

  abbrev pub end_part : List Effect
  end_part = end_effects p i slot (ended p slot (met p old brings_now))

  abbrev pub start_part : List Effect
  start_part = start_effects p inc i slot start

  pub exchange_last_effect : (x : Identity)
      → last_effect x (exchange_at p inc i e past old start) ≡ later (last_effect x start_part) (later (last_effect x end_part) (last_effect x vector_part))
  unfolding exchange_at
  exchange_last_effect x =
      last_effect-append x (vector_part ++ end_part) start_part ∙ ap (later (last_effect x start_part)) (last_effect-append x vector_part end_part)

  -- the frames of other nodes and other cycles

  vector_other : (x : Identity) (w : Option Nodes) → x ≢ rha_of (cycle_of p slot) i
      → last_effect x (vector_effects p inc i slot (e ∷ past) old w) ≡ NoEffect
  unfolding vector_effects
  vector_other x None other = refl
  vector_other x (Some w) other =
      let v : Nodes = met_with p old w in
      let none = other_identity x (rha_of (cycle_of p slot) i) other in
      cond_both (is_covered p (cycle_of p slot) i v (e ∷ past)) (Withdraw (rha_of (cycle_of p slot) i) ∷ [])
      (if is_new old v then Ask (rha_frame p.format inc (cycle_of p slot) i v) ∷ [] else []) (λ es. last_effect x es ≡ NoEffect)
      (λ _. rw none refl)
      (λ _. cond_both (is_new old v) (Ask (rha_frame p.format inc (cycle_of p slot) i v) ∷ []) [] (λ es. last_effect x es ≡ NoEffect)
      (λ _. rw none refl) (λ _. refl))

  end_other : (x : Identity) (v : Option Nodes) → x ≢ rha_of (cycle_of p slot) i → last_effect x (end_effects p i slot v) ≡ NoEffect
  unfolding end_effects
  end_other x None other = refl
  end_other x (Some v) other = rw (other_identity x (rha_of (cycle_of p slot) i) other) refl

  start_other : (x : Identity) (v : Option Nodes) → x ≢ rha_of (cycle_of p slot) i → last_effect x (start_effects p inc i slot v) ≡ NoEffect
  unfolding start_effects
  start_other x None other = refl
  start_other x (Some v) other =
      cond_both (is_start p slot) (Ask (rha_frame p.format inc (cycle_of p slot) i v) ∷ []) [] (λ es. last_effect x es ≡ NoEffect)
      (λ _. rw (other_identity x (rha_of (cycle_of p slot) i) other) refl) (λ _. refl)

  pub exchange_other : (x : Identity) → x ≢ rha_of (cycle_of p slot) i → last_effect x (exchange_at p inc i e past old start) ≡ NoEffect
  exchange_other x other =
      exchange_last_effect x
      ∙ ap (λ w. later w (later (last_effect x end_part) (last_effect x vector_part))) (start_other x start other)
      ∙ ap (λ w. later w (last_effect x vector_part)) (end_other x (ended p slot (met p old brings_now)) other)
      ∙ vector_other x brings_now other

  -- where nothing is due

  pub vector_idle : (x : Identity) → brings_now ≡ None → last_effect x vector_part ≡ NoEffect
  unfolding vector_effects
  vector_idle x h = ap (λ w. last_effect x (vector_effects p inc i slot (e ∷ past) old w)) h

  pub end_idle : (x : Identity) → is_end p slot ≡ false → last_effect x end_part ≡ NoEffect
  unfolding end_effects
  end_idle x h = ap (λ w. last_effect x (end_effects p i slot w)) (cond-false (is_end p slot) (met p old brings_now) None h)

  pub start_idle : (x : Identity) → is_start p slot ≡ false → last_effect x start_part ≡ NoEffect
  unfolding start_effects
  start_idle x h = by_vector start
    where
      by_vector : (v : Option Nodes) → last_effect x (start_effects p inc i slot v) ≡ NoEffect
      by_vector None = refl
      by_vector (Some v) =
          ap (last_effect x) (cond-false (is_start p slot) (Ask (rha_frame p.format inc (cycle_of p slot) i v) ∷ []) [] h)

-- ---- what is asked for and withdrawn of the own frame

-- what the node makes of a vector that a notice brings
abbrev pub met_last_effect : Parameters → ℕ → ℕ → ℕ → List NoticeKind → Option Nodes → Nodes → LastEffect
met_last_effect p inc k i past old v =
    if is_covered p k i v past then Withdrawn else if is_new old v then Asked (rha_frame p.format inc k i v) else NoEffect

abbrev pub brought_last_effect : Parameters → ℕ → ℕ → ℕ → List NoticeKind → Option Nodes → Option Nodes → LastEffect
brought_last_effect p inc k i past old None = NoEffect
brought_last_effect p inc k i past old (Some w) = met_last_effect p inc k i past old (met_with p old w)

-- of the vector with which it starts, and of the one that it gives up
abbrev pub start_last_effect : Parameters → ℕ → ℕ → ℕ → Option Nodes → LastEffect
start_last_effect p inc k i None = NoEffect
start_last_effect p inc k i (Some v) = Asked (rha_frame p.format inc k i v)

abbrev pub end_last_effect : Option Nodes → LastEffect
end_last_effect None = NoEffect
end_last_effect (Some v) = Withdrawn

pub vector_own : (p : Parameters) (inc k i slot : ℕ) (past : List NoticeKind) (old w : Option Nodes) → cycle_of p slot ≡ k
    → last_effect (rha_of k i) (vector_effects p inc i slot past old w) ≡ brought_last_effect p inc k i past old w
unfolding vector_effects
vector_own p inc k i slot past old None at = refl
vector_own p inc k i slot past old (Some w) at =
    subst (λ m. last_effect (rha_of m i) (vector_effects p inc i slot past old (Some w)) ≡ met_last_effect p inc m i past old (met_with p old w)) at now
  where
    now : last_effect (rha_of (cycle_of p slot) i) (vector_effects p inc i slot past old (Some w))
        ≡ met_last_effect p inc (cycle_of p slot) i past old (met_with p old w)
    now =
        let v : Nodes = met_with p old w in
        let mine = same_identity_self (rha_of (cycle_of p slot) i) in
        elim (cases_Bool (is_covered p (cycle_of p slot) i v past)) [
          | inl covered ↦ rw (covered, mine) refl
          | inr not_yet ↦ elim (cases_Bool (is_new old v)) [
            | inl new ↦ rw (not_yet, new, mine) refl
            | inr same ↦ rw (not_yet, same) refl
          ]
        ]

pub end_own : (p : Parameters) (k i slot : ℕ) (v : Option Nodes) → cycle_of p slot ≡ k → last_effect (rha_of k i) (end_effects p i slot v) ≡ end_last_effect v
unfolding end_effects
end_own p k i slot None at = refl
end_own p k i slot (Some v) at =
    subst (λ m. last_effect (rha_of m i) (Withdraw (rha_of (cycle_of p slot) i) ∷ []) ≡ Withdrawn) at
    (rw (same_identity_self (rha_of (cycle_of p slot) i)) refl)

pub start_own : (p : Parameters) (inc k i slot : ℕ) (v : Option Nodes) → is_start p slot ≡ true → cycle_of p slot ≡ k
    → last_effect (rha_of k i) (start_effects p inc i slot v) ≡ start_last_effect p inc k i v
unfolding start_effects
start_own p inc k i slot None starts at = refl
start_own p inc k i slot (Some v) starts at =
    subst (λ m. last_effect (rha_of m i) (start_effects p inc i slot (Some v)) ≡ Asked (rha_frame p.format inc m i v)) at now
  where
    now : last_effect (rha_of (cycle_of p slot) i) (start_effects p inc i slot (Some v)) ≡ Asked (rha_frame p.format inc (cycle_of p slot) i v)
    now = rw (starts, same_identity_self (rha_of (cycle_of p slot) i)) refl

-- ---- what a notice brings

-- the vector of cycle k that it brings
abbrev pub brings : Format → ℕ → NoticeKind → Option Nodes
brings format k Idle = None
brings format k Bad = None
brings format k (Sent f) = None
brings format k (Got f) = vector_in format k f

pub brought_in : (p : Parameters) (k n : ℕ) (e : NoticeKind) → cycle_of p n ≡ k → is_exchange p n ≡ true
    → brought p n e ≡ brings p.format k e
unfolding brought
brought_in p k n Idle at h = refl
brought_in p k n Bad at h = refl
brought_in p k n (Sent f) at h = refl
brought_in p k n (Got f) at h =
    cond-true (is_exchange p n) (vector_in p.format (cycle_of p n) f) None h ∙ ap (λ m. vector_in p.format m f) at

pub brought_out : (p : Parameters) (n : ℕ) (e : NoticeKind) → is_exchange p n ≡ false → brought p n e ≡ None
unfolding brought
brought_out p n Idle h = refl
brought_out p n Bad h = refl
brought_out p n (Sent f) h = refl
brought_out p n (Got f) h = cond-false (is_exchange p n) (vector_in p.format (cycle_of p n) f) None h
