-- What a turn does of the vectors of one membership cycle, in each part of the cycle: the vector
-- that the node has after it, and the last effect on the frame of its vector.
use Rattle.std.proofs.Common.{◌≡◌, ℕ, ◌+◌, ◌-◌, ◌*◌, ◌/◌, ◌%◌, ◌<◌, ◌==◌, ◌&&◌, ◌≢◌, ◌⊎◌, inl, inr, true, false, List, ◌∷◌, length, Option, Some, None, nat_lt, nat_le, refl, ap, sym, ◌∙◌, arith}
use Rattle.std.proofs.lemmas.Bool.{and_from, and_left, and_right, cases_eq, cond-true, eq-eqb, lt-leb, lt-ltb}
use Rattle.std.proofs.lemmas.Nat.{div-add-mod'}
use Rattle.cany_base.specs.declared.class.Class.TheVariants as class
use Rattle.cany_base.specs.declared.notice.NoticeKind.{NoticeKind}
use Rattle.cany_base.specs.Nodes.{Nodes}
use Rattle.cany_base.specs.Params.{Parameters}
use Rattle.cany_base.specs.Scenario.{ScenarioParts}
use Rattle.cany_model.specs.Bus.Frames.{Identity, same_class}
use Rattle.cany_model.specs.Rules.Membership.{exchange_effects, vectors}
use Rattle.cany_model.specs.Rules.KnowledgeOf.{ended_in, start_in, knowledge_of}
use Rattle.cany_model.specs.Rules.Turn.{protocols, turn_effects}
use Rattle.cany_model.specs.Rules.Vectors.{brought, end_effects, ended, exchange_at, met, rha_of, start_effects, vector_effects}
use Rattle.cany_base.specs.Cycles.{cycle_of, is_end, is_exchange, is_start}
use Rattle.cany_model.proofs.Promises.KeptVectors.{vector_at}
use Rattle.cany_model.proofs.Rules.Site.VectorFacts.{vector_met, vector_starts}
use Rattle.cany_model.proofs.Timed.Views.VectorLastEffect.{IsAt, IsCycle, at_end, at_exchange, at_place, at_start, brings, brought_in, brought_out, brought_last_effect, end_idle, end_own, end_last_effect, exchange_in, exchange_other, exchange_last_effect, no_end, no_start, start_idle, start_own, start_last_effect, vector_idle, vector_own}
use Rattle.cany_model.proofs.Timed.Common.LastEffect.{NamesAlone, LastEffect, NoEffect, Withdrawn, later, later_no_effect, turn_last_effect, last_effect}

-- only the exchange of vectors has an effect on their frames
rha_alone : NamesAlone class.Rha vectors protocols
unfolding same_class
rha_alone = inr (refl, inr (refl, inr (refl, inr (refl, inl (refl, (refl, (refl, (refl, (refl, (refl, tt))))))))))

-- the vector with which a cycle starts in the turn
abbrev pub starts_with : ScenarioParts → ℕ → NoticeKind → List NoticeKind → Option Nodes
starts_with scenario i e past = start_in scenario.params i (length past) e (knowledge_of scenario i past)

turn_exchange : (scenario : ScenarioParts) (i : ℕ) (e : NoticeKind) (past : List NoticeKind) (k r : ℕ)
    → last_effect (rha_of k r) (turn_effects scenario i (e ∷ past))
    ≡ last_effect (rha_of k r) (exchange_at scenario.params scenario.inc i e past (vector_at scenario i past) (starts_with scenario i e past))
unfolding exchange_effects
turn_exchange scenario i e past k r = turn_last_effect scenario i (e ∷ past) (rha_of k r) vectors rha_alone

-- the frames of other nodes and other cycles are left alone
pub turn_other : (scenario : ScenarioParts) (i : ℕ) (e : NoticeKind) (past : List NoticeKind) (k r : ℕ)
    → rha_of k r ≢ rha_of (cycle_of scenario.params (length past)) i → last_effect (rha_of k r) (turn_effects scenario i (e ∷ past)) ≡ NoEffect
turn_other scenario i e past k r other =
    turn_exchange scenario i e past k r
    ∙ exchange_other scenario.params scenario.inc i e past (vector_at scenario i past) (starts_with scenario i e past) (rha_of k r) other

module _ (scenario : ScenarioParts) (k i : ℕ) (c : IsCycle scenario.params k) (e : NoticeKind) (past : List NoticeKind) where
  abbrev pub p : Parameters
  p = scenario.params

  abbrev pub slot : ℕ
  slot = length past

  abbrev pub x : Identity
  x = rha_of k i

  abbrev pub old : Option Nodes
  old = vector_at scenario i past

  abbrev pub own_last : LastEffect
  own_last = last_effect x (turn_effects scenario i (e ∷ past))

  abbrev vector_last : LastEffect
  vector_last = last_effect x (vector_effects p scenario.inc i slot (e ∷ past) old (brought p slot e))

  abbrev end_last : LastEffect
  end_last = last_effect x (end_effects p i slot (ended p slot (met p old (brought p slot e))))

  abbrev start_last : LastEffect
  start_last = last_effect x (start_effects p scenario.inc i slot (starts_with scenario i e past))

  turn_parts : own_last ≡ later start_last (later end_last vector_last)
  turn_parts =
      turn_exchange scenario i e past k i ∙ exchange_last_effect p scenario.inc i e past old (starts_with scenario i e past) x

  -- outside the cycle's exchange, and its start, its frame is left alone
  pub turn_outside : (slot < k * p.cycle) ⊎ (k * p.cycle + p.bound < slot) → own_last ≡ NoEffect
  turn_outside out = elim (cases_eq (cycle_of p slot) k) [
    | inr other ↦ turn_other scenario i e past k i (λ h. other (sym (ap (λ (y : Identity). y.number) h)))
    | inl same ↦
        let q : ℕ = slot % p.cycle in
        let whole : slot / p.cycle * p.cycle + q ≡ slot = div-add-mod' slot p.cycle in
        let begun : slot / p.cycle * p.cycle ≡ k * p.cycle = ap (λ m. m * p.cycle) same in
        let far : p.bound < q = elim out [ inl early ↦ absurd (omega (arith, early, whole, begun)) | inr late ↦ omega (arith, late, whole, begun) ] in
        let a : IsAt p k slot q = record { cycle = same; phase = refl } in
        let none : is_exchange p slot ≡ false =
        at_exchange p k slot q a
        ∙ and_left (nat_lt 0 q && nat_le q p.bound) (nat_lt 0 k) (and_right (nat_lt 0 q) (nat_le q p.bound) (lt-leb q p.bound far)) in
        turn_parts
        ∙ ap (λ w. later w (later end_last vector_last))
        (start_idle p scenario.inc i e past old (starts_with scenario i e past) x (no_start p k slot q a (omega (arith, far))))
        ∙ ap (λ w. later w vector_last)
        (end_idle p scenario.inc i e past old (starts_with scenario i e past) x (no_end p k slot q a (λ z. omega (arith, z, far))))
        ∙ vector_idle p scenario.inc i e past old (starts_with scenario i e past) x (brought_out p slot e none)
  ]

  -- at the start
  pub record Starts : Type 0 where
    pub vector : vector_at scenario i (e ∷ past) ≡ starts_with scenario i e past
    pub last_effect : own_last ≡ start_last_effect p scenario.inc k i (starts_with scenario i e past)

  pub turn_starts : slot ≡ k * p.cycle → Starts
  turn_starts at =
      let a : IsAt p k slot 0 = at_place p k slot 0 (omega (arith, at)) (omega (arith, c.long)) in
      let starts : is_start p slot ≡ true = at_start p k slot 0 a ∙ and_from (0 == 0) (nat_lt 0 k) refl (lt-ltb 0 k c.some) in
      let none : is_exchange p slot ≡ false = at_exchange p k slot 0 a in
      record {
        vector = vector_starts scenario i e past starts;
        last_effect = turn_parts
            ∙ ap (λ w. later start_last (later w vector_last))
            (end_idle p scenario.inc i e past old (starts_with scenario i e past) x (no_end p k slot 0 a (λ z. omega (arith, z, c.exchanged))))
            ∙ ap (λ w. later start_last w) (vector_idle p scenario.inc i e past old (starts_with scenario i e past) x (brought_out p slot e none))
            ∙ later_no_effect start_last
            ∙ start_own p scenario.inc k i slot (starts_with scenario i e past) starts a.cycle;
      }

  -- while vectors are exchanged, before the end
  pub record Exchanges : Type 0 where
    pub vector : vector_at scenario i (e ∷ past) ≡ met p old (brings p.format k e)
    pub last_effect : own_last ≡ brought_last_effect p scenario.inc k i (e ∷ past) old (brings p.format k e)

  pub turn_exchanges : k * p.cycle < slot → slot < k * p.cycle + p.bound → Exchanges
  turn_exchanges from to =
      let q : ℕ = slot - k * p.cycle in
      let a : IsAt p k slot q = at_place p k slot q (omega (arith, from)) (omega (arith, from, to, c.long)) in
      let start : is_start p slot ≡ false = no_start p k slot q a (omega (arith, from)) in
      let last : is_end p slot ≡ false = no_end p k slot q a (λ z. omega (arith, z, from, to)) in
      let got : brought p slot e ≡ brings p.format k e =
      brought_in p k slot e a.cycle (exchange_in p k slot q c a (omega (arith, from)) (omega (arith, from, to))) in
      record {
        vector = vector_met scenario i e past start last ∙ ap (met p old) got;
        last_effect = turn_parts
            ∙ ap (λ w. later w (later end_last vector_last)) (start_idle p scenario.inc i e past old (starts_with scenario i e past) x start)
            ∙ ap (λ w. later w vector_last) (end_idle p scenario.inc i e past old (starts_with scenario i e past) x last)
            ∙ vector_own p scenario.inc k i slot (e ∷ past) old (brought p slot e) a.cycle
            ∙ ap (brought_last_effect p scenario.inc k i (e ∷ past) old) got;
      }

  -- and at the end, where the vector is given up
  pub record Ends : Type 0 where
    pub installs : ended_in p slot e (knowledge_of scenario i past) ≡ met p old (brings p.format k e)
    pub last_effect : (own_last ≡ Withdrawn) ⊎ ((own_last ≡ NoEffect) × (old ≡ None))

  pub turn_ends : slot ≡ k * p.cycle + p.bound → Ends
  unfolding met vector_effects
  turn_ends at =
      let a : IsAt p k slot p.bound = at_place p k slot p.bound at c.long in
      let start : is_start p slot ≡ false = no_start p k slot p.bound a c.exchanged in
      let last : is_end p slot ≡ true =
      at_end p k slot p.bound a ∙ and_from (p.bound == p.bound) (nat_lt 0 k) (eq-eqb p.bound p.bound refl) (lt-ltb 0 k c.some) in
      let got : brought p slot e ≡ brings p.format k e =
      brought_in p k slot e a.cycle (exchange_in p k slot p.bound c a c.exchanged (omega arith)) in
      let whole : own_last ≡ later (end_last_effect (met p old (brought p slot e))) vector_last =
      turn_parts
      ∙ ap (λ w. later w (later end_last vector_last)) (start_idle p scenario.inc i e past old (starts_with scenario i e past) x start)
      ∙ ap (λ w. later w vector_last)
      (ap (λ o. last_effect x (end_effects p i slot o)) (cond-true (is_end p slot) (met p old (brought p slot e)) None last)
      ∙ end_own p k i slot (met p old (brought p slot e)) a.cycle) in
      record {
        installs = cond-true (is_end p slot) (met p old (brought p slot e)) None last ∙ ap (met p old) got;
        last_effect = by_vector old (brought p slot e) refl refl whole;
      }
    where
      by_vector : (o w : Option Nodes) → old ≡ o → brought p slot e ≡ w
          → own_last ≡ later (end_last_effect (met p old (brought p slot e))) vector_last
          → (own_last ≡ Withdrawn) ⊎ ((own_last ≡ NoEffect) × (old ≡ None))
      by_vector o (Some w) is got whole = inl (whole ∙ ap (λ b. later (end_last_effect (met p old b)) vector_last) got)
      by_vector None None is got whole =
          inr (
            whole ∙ ap (λ b. later (end_last_effect (met p old b)) vector_last) got ∙ ap (λ h. later (end_last_effect h) vector_last) is
                ∙ ap (λ b. last_effect x (vector_effects p scenario.inc i slot (e ∷ past) old b)) got,
            is,
          )
      by_vector (Some v) None is got whole =
          inl (whole ∙ ap (λ b. later (end_last_effect (met p old b)) vector_last) got ∙ ap (λ h. later (end_last_effect h) vector_last) is)
