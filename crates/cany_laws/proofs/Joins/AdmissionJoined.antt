-- A node whose JOIN counts comes into each vector with which a member starts the next cycle, if no
-- vector of the cycle before has it.
use Rattle.std.proofs.Common.{◌≡◌, ◌≢◌, ℕ, zero, suc, ◌+◌, ◌-◌, ◌*◌, ◌<◌, ◌≤◌, ◌⊎◌, inl, inr, true, false, List, ◌∷◌, length, Option, Some, None, refl, ap, sym, ◌∙◌, subst, arith}
use Rattle.std.proofs.Math.Nat.{mul-le-mul_right}
use Rattle.std.proofs.lemmas.Bool.{both_ways, cases_Bool, cases_eq, cases_lt}
use Rattle.cany_base.proofs.NodesFacts.{has_none}
use Rattle.cany_base.proofs.ParamsFacts.{few_nodes}
use Rattle.cany_base.specs.Cycles.{cycle_of, is_end}
use Rattle.cany_base.specs.declared.notice.NoticeKind.{NoticeKind}
use Rattle.cany_base.specs.declared.notice.NoticeKind.TheVariants.{Got}
use Rattle.cany_base.specs.declared.step.Step.{Step}
use Rattle.cany_base.specs.Limits.{most_nodes}
use Rattle.cany_base.specs.Nodes.{Nodes, has}
use Rattle.cany_base.specs.Params.{Parameters}
use Rattle.cany_base.specs.Scenario.{IsLegalScenario, ScenarioParts}
use Rattle.cany_model.specs.Bus.State.{EndedIncarnation, RunState}
use Rattle.cany_model.specs.Promises.Hypothesis.{IsWithin}
use Rattle.cany_model.specs.Rules.Knowledge.{Knowledge}
use Rattle.cany_model.specs.Rules.KnowledgeOf.{after_asking, knowledge_of}
use Rattle.cany_model.specs.Runs.Run.{run}
use Rattle.cany_model.proofs.Among.{Among-from_Contains}
use Rattle.cany_model.proofs.Promises.KeptVectors.{vector_at}
use Rattle.cany_model.proofs.Promises.OwnSlotsAlone.{members_later, run_numbered}
use Rattle.cany_model.proofs.Rules.Site.KnowledgeSteps.{members_by}
use Rattle.cany_model.proofs.Runs.Runs.{orderly}
use Rattle.cany_model.proofs.Timed.Detector.VectorsAgreeOn.{Says, none_says}
use Rattle.cany_model.proofs.Timed.Views.SameView.{end_place}
use Rattle.cany_model.proofs.Timed.Views.StartViews.{start_no_end}
use Rattle.cany_model.proofs.Timed.Views.VectorLastEffect.{IsCycle, at_place}
use Rattle.cany_model.proofs.Timed.Views.VectorSlots.{cycle_of_formulas}
use Rattle.cany_model.proofs.Timed.Views.VectorTurns.{turn_starts}
use Rattle.cany_laws.specs.Admission.{IsOutsideAtEach, JoinIsCarried}
use Rattle.cany_laws.specs.Logs.{IsIncarnation, followed_by}
use Rattle.cany_laws.specs.Views.{installed_as}
use Rattle.cany_laws.proofs.Joins.AdmissionHeard.{join_got}
use Rattle.cany_laws.proofs.Members.EachView.{view_read}
use Rattle.cany_laws.proofs.Members.EqualMembers.{ended_as, ended_installs, ended_none, first_read, first_read-length, first_read-more, first_read-none, members_first, members_more, next_read}
use Rattle.cany_laws.proofs.Silences.Lives.{Lived, lived}
use Rattle.cany_laws.proofs.Since.{begins}
use Rattle.cany_model.proofs.Timed.Detector.Joining.{Stands, asked_joiner, asked_joins, joiner_next, joiner_says, stands}

-- ---- an incarnation's view

module _ (scenario : ScenarioParts) (journal : List Step) (i : ℕ) (e : EndedIncarnation) (l : Lived scenario journal i e) where
  abbrev View : ℕ → Nodes
  View n = (knowledge_of (followed_by scenario e) i (first_read n (run scenario journal) i e)).members

  -- it installed a vector in a cycle that ended before the slot
  abbrev InstalledBy : ℕ → Type 0
  InstalledBy n = (d : ℕ) × (v : Nodes) × (d * scenario.params.cycle + scenario.params.bound < n)
      × (installed_as scenario (run scenario journal) i e d ≡ Some v)

  -- one of a later number has nobody in its view before that
  pub has_view : 0 < e.incarnation.number → (q n : ℕ) → n ≤ e.next → (has (View n) q ≡ false) ⊎ InstalledBy n
  has_view later q zero short =
      inl (ap (λ past. has (knowledge_of (followed_by scenario e) i past).members q) (first_read-none scenario journal i e l)
      ∙ ap (λ m. has m q) (members_first (followed_by scenario e) i ∙ members_later scenario e.incarnation later) ∙ has_none q)
  has_view later q (suc n) short = elim (has_view later q n (omega (arith, short))) [
    | inr before ↦ inr (before.0, before.1, omega (arith, before.2), before.3)
    | inl none ↦ by_ended none (ended_as scenario (run scenario journal) n i e) refl
  ]
    where
      by_ended : has (View n) q ≡ false → (o : Option Nodes) → ended_as scenario (run scenario journal) n i e ≡ o
          → (has (View (suc n)) q ≡ false) ⊎ InstalledBy (suc n)
      by_ended none None is =
          let one : n + 1 ≡ suc n = omega arith in
          inl (ap (λ m. has (View m) q) (sym one) ∙ ap (λ m. has m q) (members_more scenario journal i n e l (omega (arith, short)))
          ∙ ap (λ o. has (members_by o (View n)) q) is ∙ none)
      by_ended none (Some v) is = elim (cases_Bool (is_end scenario.params n)) [
        | inr other ↦ absurd (never v (sym (ended_none scenario journal i n e l (omega (arith, short)) other) ∙ is))
        | inl end ↦
            let at = end_place scenario.params n end in
            let d : ℕ = cycle_of scenario.params n in
            inr (d, v, omega (arith, at.1), sym (ended_installs scenario journal i d n e l (omega (arith, short)) at.1) ∙ is)
      ]
        where
          never : (v : Nodes) → None ≡ Some v → ⊥
          never v q = cc

-- ---- the JOIN

module _ (scenario : ScenarioParts) (legal : IsLegalScenario scenario) (journal : List Step) (within : IsWithin scenario.params (run scenario journal).trace)
    (r k slot : ℕ) (below : r < scenario.params.nodes) (carried : JoinIsCarried scenario (run scenario journal) r k slot)
    (outside : IsOutsideAtEach scenario (run scenario journal) r k slot)
    (former : (i : ℕ) (e : EndedIncarnation) → IsIncarnation scenario (run scenario journal) i e → e.incarnation.from ≤ (k - 1) * scenario.params.cycle
    → k * scenario.params.cycle < e.next → 1 < k → Says r false (installed_as scenario (run scenario journal) i e (k - 1))) where
  abbrev s : RunState
  s = run scenario journal

  abbrev p : Parameters
  p = scenario.params

  abbrev T : ℕ
  T = scenario.params.cycle

  small : scenario.params.nodes ≤ most_nodes
  small = few_nodes scenario.params legal.in_range

  few : r < most_nodes
  few = omega (arith, below, small)

  pub some : 0 < k
  some = elim (cases_lt 0 k) [
    | inl more ↦ more
    | inr zero_k ↦
        let none : k * T ≡ 0 * T = ap (λ n. n * T) (omega (arith, zero_k)) in
        absurd (omega (arith, carried.after, carried.by_start, none))
  ]

  c : IsCycle scenario.params k
  c = cycle_of_formulas scenario.params legal.formulas k some

  -- one cycle later
  before_start : (k - 1) * T + T ≡ k * T
  before_start =
      let one : k - 1 + 1 ≡ k = omega (arith, some) in
      let more : (k - 1 + 1) * T ≡ (k - 1) * T + T = grind arith in
      sym more ∙ ap (λ n. n * T) one

  place : Stands s.trace carried.note
  place = stands s.trace carried.note (run_numbered scenario.params.nodes s (orderly scenario journal))
      (Among-from_Contains s.trace carried.note carried.stands)

  size : length place.older ≡ slot
  size = sym place.slot ∙ carried.here

  -- of an incarnation that takes part since the cycle before started
  module _ (i : ℕ) (e : EndedIncarnation) (is : IsIncarnation scenario (run scenario journal) i e) (read : k * scenario.params.cycle < e.next)
      (part : e.incarnation.from ≤ (k - 1) * scenario.params.cycle) where
    l : Lived scenario journal i e
    l = lived scenario journal i e is

    abbrev sc : ScenarioParts
    sc = followed_by scenario e

    abbrev K : ℕ → Knowledge
    K n = knowledge_of (followed_by scenario e) i (first_read n (run scenario journal) i e)

    got : r ≢ i → next_read slot s i e ≡ Got carried.what
    got other =
        let life : 0 < scenario.params.life = omega (arith, legal.formulas.bound, legal.formulas.life) in
        subst (λ n. next_read n s i e ≡ Got carried.what) size
        (join_got scenario life small journal i r e is place.newer carried.note place.older place.place place.slot
        (omega (arith, size, carried.by_start, read)) (omega (arith, size, carried.after, part)) carried.what carried.frame carried.join carried.asker
        carried.clean other)

    -- no cycle that ends after the JOIN and before the next start brings the node in
    ended_out : (n : ℕ) → (k - 1) * T < n → n < k * T → Says r false (ended_as scenario s n i e)
    ended_out n from to = elim (cases_Bool (is_end scenario.params n)) [
      | inr none ↦ subst (Says r false) (sym (ended_none scenario journal i n e l (omega (arith, to, read)) none)) (none_says r false)
      | inl end ↦
          let at = end_place scenario.params n end in
          let cycle : cycle_of scenario.params n ≡ k - 1 =
          (at_place scenario.params (k - 1) n (n - (k - 1) * T) (omega (arith, from)) (omega (arith, from, to, before_start))).cycle in
          let place_of : n ≡ (k - 1) * T + scenario.params.bound = at.1 ∙ ap (λ d. d * T + scenario.params.bound) cycle in
          subst (Says r false) (sym (ended_installs scenario journal i (k - 1) n e l (omega (arith, to, read)) place_of))
          (former i e is part read (omega (arith, at.0, cycle)))
    ]

    out_next : (n : ℕ) → (k - 1) * T < n → n < k * T → has (K n).members r ≡ false → has (K (n + 1)).members r ≡ false
    out_next n from to out =
        ap (λ m. has m r) (members_more scenario journal i n e l (omega (arith, to, read)))
        ∙ by_ended (ended_as scenario s n i e) (ended_out n from to)
      where
        by_ended : (v : Option Nodes) → Says r false v → has (members_by v (K n).members) r ≡ false
        by_ended None says = out
        by_ended (Some v) says = says v refl

    out_at : (d : ℕ) → slot + d ≤ k * T → has (K (slot + d)).members r ≡ false
    out_at zero until =
        let one : slot - 1 + 1 ≡ slot + 0 = omega (arith, carried.after) in
        subst (λ n. has (K n).members r ≡ false) one (outside i e is part read)
    out_at (suc d) until =
        let next : slot + d + 1 ≡ slot + suc d = omega arith in
        subst (λ n. has (K n).members r ≡ false) next
        (out_next (slot + d) (omega (arith, carried.after)) (omega (arith, until)) (out_at d (omega (arith, until))))

    out_until : (n : ℕ) → slot ≤ n → n ≤ k * T → has (K n).members r ≡ false
    out_until n from to =
        let all : slot + (n - slot) ≡ n = omega (arith, from) in
        subst (λ m. has (K m).members r ≡ false) all (out_at (n - slot) (omega (arith, from, to)))

    at_slot : (n : ℕ) → n ≤ k * T → length (first_read n s i e) ≡ n
    at_slot n to = first_read-length scenario journal i n e l (omega (arith, to, read))

    more : (n : ℕ) → n ≤ k * T → K (n + 1) ≡ knowledge_of (followed_by scenario e) i (next_read n s i e ∷ first_read n s i e)
    more n to = ap (knowledge_of (followed_by scenario e) i) (first_read-more scenario journal i n e l (omega (arith, to, read)))

    -- what it knows after it has heard who asks, in the turn of a slot
    abbrev Asked : ℕ → Type 0
    Asked n = has (after_asking p i (length (first_read n (run scenario journal) i e)) (next_read n (run scenario journal) i e) (K n)).joiners r ≡ true

    asks_next : (n : ℕ) → (k - 1) * T < n → n < k * T → Asked n → has (K (n + 1)).joiners r ≡ true
    unfolding ended_as
    asks_next n from to asked =
        ap (λ (st : Knowledge). has st.joiners r) (more n (omega (arith, to)))
        ∙ joiner_next sc i r (next_read n s i e) (first_read n s i e) few (ended_out n from to) asked

    asked_at : r ≢ i → (d : ℕ) → slot + d ≤ k * T → Asked (slot + d)
    asked_at other zero until =
        let same : slot ≡ slot + 0 = omega arith in
        subst Asked same
        (asked_joins p i r (length (first_read slot s i e)) (next_read slot s i e) (K slot) few carried.what (got other) carried.join carried.asker
        (out_until slot (omega arith) (omega (arith, until))))
    asked_at other (suc d) until =
        let next : slot + d + 1 ≡ slot + suc d = omega arith in
        subst Asked next
        (asked_joiner p i r (length (first_read (slot + d + 1) s i e)) (next_read (slot + d + 1) s i e) (K (slot + d + 1)) few
        (asks_next (slot + d) (omega (arith, carried.after)) (omega (arith, until)) (asked_at other d (omega (arith, until)))))

    joined_since : Says r true (K (k * T + 1)).vector
    joined_since =
        let n : ℕ = k * T in
        let past : List NoticeKind = first_read n s i e in
        let notice : NoticeKind = next_read n s i e in
        let at : length past ≡ n = at_slot n (omega arith) in
        let no_end : is_end p (length past) ≡ false = start_no_end p k (length past) c at in
        let starts = (turn_starts sc k i (record { some = c.some; exchanged = c.exchanged; long = c.long }) notice past at).vector in
        let all : slot + (n - slot) ≡ n = omega (arith, carried.by_start) in
        subst (Says r true) (sym (ap (λ (st : Knowledge). st.vector) (more n (omega arith)) ∙ starts))
        (joiner_says p i r (length past) notice (K n) few no_end (λ member. elim (cases_eq r i) [
          | inl same ↦ absurd (both_ways (has (K n).members r) (out_until n carried.by_start (omega arith)) (ap (has (K n).members) same ∙ member))
          | inr other ↦ subst Asked all (asked_at other (n - slot) (omega (arith, carried.by_start)))
        ]))

  -- one that takes part only since later is no member then
  none_later : (i : ℕ) (e : EndedIncarnation) → IsIncarnation scenario s i e → k * T < e.next → (k - 1) * T < e.incarnation.from
      → has (knowledge_of (followed_by scenario e) i (first_read (k * T) s i e)).members i ≡ false
  none_later i e is read late =
      let l' = lived scenario journal i e is in
      let later : 0 < e.incarnation.number = number_later l' in
      elim (has_view scenario journal i e l' later i (k * T) (omega (arith, read))) [
        | inl none ↦ none
        | inr some_view ↦
            let d : ℕ = some_view.0 in
            let had = view_read scenario legal journal within i e is d some_view.1 some_view.3 in
            elim (cases_lt d k) [
              | inl less ↦ let step : d * T ≤ (k - 1) * T = mul-le-mul_right T (omega (arith, less)) in absurd (omega (arith, step, had.took_part, late))
              | inr not_less ↦ let step : k * T ≤ d * T = mul-le-mul_right T not_less in absurd (omega (arith, step, some_view.2))
            ]
      ]
    where
      number_later : Lived scenario journal i e → 0 < e.incarnation.number
      number_later l' = elim (cases_lt 0 e.incarnation.number) [
        | inl more ↦ more
        | inr zero_number ↦ absurd (omega (arith, late, (begins scenario journal i e l').first (omega (arith, zero_number))))
      ]

  pub joined : (i : ℕ) (e : EndedIncarnation) → IsIncarnation scenario s i e → k * T < e.next
      → Says r true (vector_at (followed_by scenario e) i (first_read (k * T + 1) s i e))
  joined i e is read = elim (cases_lt ((k - 1) * T) e.incarnation.from) [
    | inr part ↦ joined_since i e is read part
    | inl late ↦
        let l' = lived scenario journal i e is in
        let n : ℕ = k * T in
        let past : List NoticeKind = first_read n s i e in
        let notice : NoticeKind = next_read n s i e in
        let at : length past ≡ n = first_read-length scenario journal i n e l' (omega (arith, read)) in
        let no_end : is_end p (length past) ≡ false = start_no_end p k (length past) c at in
        let starts = (turn_starts (followed_by scenario e) k i (record { some = c.some; exchanged = c.exchanged; long = c.long }) notice past at).vector in
        let more' = ap (knowledge_of (followed_by scenario e) i) (first_read-more scenario journal i n e l' read) in
        subst (Says r true) (sym (ap (λ (st : Knowledge). st.vector) more' ∙ starts))
        (joiner_says p i r (length past) notice (knowledge_of (followed_by scenario e) i past) few no_end (λ member.
        absurd (both_ways (has (knowledge_of (followed_by scenario e) i past).members i) (none_later i e is read late) member)))
  ]
