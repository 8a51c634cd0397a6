-- A node of whom a member hears nothing for a silence, and of whom nobody got a JOIN, is out of the
-- vector of the cycle that starts then.
use Rattle.std.proofs.Common.{◌≡◌, ℕ, zero, suc, ◌+◌, ◌-◌, ◌*◌, ◌/◌, ◌%◌, ◌<◌, ◌≤◌, ◌⊎◌, inl, inr, Bool, true, false, List, length, Option, Some, None, refl, ap, sym, ◌∙◌, subst, arith, div-mul-le_self}
use Rattle.std.proofs.Math.Nat.{mul-le-mul_right}
use Rattle.std.proofs.lemmas.Bool.{both_ways, cases_Bool, cases_eq, cases_lt}
use Rattle.std.proofs.lemmas.Nat.{div-add-mod'}
use Rattle.cany_base.proofs.ParamsFacts.{few_nodes}
use Rattle.cany_base.specs.Cycles.{cycle_of, is_end}
use Rattle.cany_base.specs.declared.notice.NoticeKind.{NoticeKind}
use Rattle.cany_base.specs.declared.step.Step.{Step}
use Rattle.cany_base.specs.Nodes.{Nodes, has}
use Rattle.cany_base.specs.Params.{Parameters}
use Rattle.cany_base.specs.Scenario.{IsLegalScenario, ScenarioParts}
use Rattle.cany_model.specs.Bus.State.{EndedIncarnation, Incarnation, RunState}
use Rattle.cany_model.specs.Promises.Hypothesis.{IsWithin}
use Rattle.cany_model.specs.Rules.KnowledgeOf.{after_asking, knowledge_of}
use Rattle.cany_model.specs.Runs.Run.{run}
use Rattle.cany_model.proofs.Promises.KeptVectors.{vector_at}
use Rattle.cany_model.proofs.Rules.Site.KnowledgeSteps.{members_by}
use Rattle.cany_model.proofs.Runs.PresentIncarnations.{each_present}
use Rattle.cany_model.proofs.Timed.Detector.Removal.{member_no_joiner}
use Rattle.cany_model.proofs.Timed.Detector.SilentNode.{lacks_says}
use Rattle.cany_model.proofs.Timed.Detector.VectorsAgreeOn.{Says}
use Rattle.cany_model.proofs.Timed.Views.SameView.{end_place}
use Rattle.cany_model.proofs.Timed.Views.StartViews.{start_no_end}
use Rattle.cany_model.proofs.Timed.Views.VectorLastEffect.{IsCycle, at_place}
use Rattle.cany_model.proofs.Timed.Views.VectorSlots.{cycle_of_formulas}
use Rattle.cany_model.proofs.Timed.Views.VectorTurns.{turn_starts}
use Rattle.cany_laws.specs.Admission.{HasViewBefore, KnowsItOutside}
use Rattle.cany_laws.specs.Detection.{HearsNothingOf, IsLeftOut}
use Rattle.cany_laws.specs.Logs.{IsIncarnation, followed_by}
use Rattle.cany_laws.specs.Membership.{members_as}
use Rattle.cany_laws.specs.Removal.{HadItLongBefore, HearsNoLifeOf, NobodyGotJoin}
use Rattle.cany_laws.specs.Views.{installed_as}
use Rattle.cany_laws.proofs.Joins.AdmissionJoined.{has_view}
use Rattle.cany_laws.proofs.Joins.AdmissionKnown.{is_outside}
use Rattle.cany_laws.proofs.Joins.AdmissionTaken.{starts_say}
use Rattle.cany_laws.proofs.Joins.AdmissionVectors.{installs_say}
use Rattle.cany_laws.proofs.Silences.Detected.{detected}
use Rattle.cany_laws.proofs.Members.EachView.{each_installs_one, view_read}
use Rattle.cany_laws.proofs.Members.EqualMembers.{ended_as, ended_installs, ended_none, equal_installed, equal_original, first_read, first_read-length, first_read-more, members_more, next_read}
use Rattle.cany_laws.proofs.Members.LeftOut.{left_out}
use Rattle.cany_laws.proofs.Silences.Lives.{Lived, lived}
use Rattle.cany_laws.proofs.Members.RemovalJoiners.{asks_not, gets_none, none_first, still_none}
use Rattle.cany_laws.proofs.Members.RemovalMembers.{NobodyInstalls, member_installs, nobody_next, view_changes}
use Rattle.cany_laws.proofs.Since.{begins}

-- an incarnation of a later number does not take part since slot 0
begins_late : (scenario : ScenarioParts) (journal : List Step) (i : ℕ) (e : EndedIncarnation) → Lived scenario journal i e → 0 < e.incarnation.number
    → 0 < e.incarnation.from
begins_late scenario journal i e l =
    subst (λ (inc : Incarnation). 0 < inc.number → 0 < inc.from) l.present
    (each_present scenario (λ inc. 0 < inc.number → 0 < inc.from) (λ later. absurd (omega (arith, later))) (λ slot inc later. omega arith) l.front i)

-- the first cycle that does not start before a slot
first_start : (T from : ℕ) → 0 < T → (c : ℕ) × (from ≤ c * T) × (c * T < from + T)
first_start T from some =
    let n : ℕ = from + (T - 1) in
    let whole : n / T * T + n % T ≡ n = div-add-mod' n T in
    let low : n / T * T ≤ n = div-mul-le_self n T in
    (n / T, omega (arith, whole, some), omega (arith, low, some))

module _ (scenario : ScenarioParts) (legal : IsLegalScenario scenario) (journal : List Step) (within : IsWithin scenario.params (run scenario journal).trace)
    (i r t k : ℕ) (e : EndedIncarnation) (below : r < scenario.params.nodes) (h : HadItLongBefore scenario (run scenario journal) r t k i e)
    (quiet : HearsNoLifeOf scenario (run scenario journal) r t (k * scenario.params.cycle) i e)
    (silent : NobodyGotJoin scenario (run scenario journal) r t (k * scenario.params.cycle)) where
  abbrev s : RunState
  s = run scenario journal

  abbrev T : ℕ
  T = scenario.params.cycle

  abbrev Δ : ℕ
  Δ = scenario.params.bound

  abbrev View : (x : ℕ) → EndedIncarnation → ℕ → Nodes
  View x g n = (knowledge_of (followed_by scenario g) x (first_read n (run scenario journal) x g)).members

  l : Lived scenario journal i e
  l = lived scenario journal i e h.is

  later : t < k * T
  later = omega (arith, h.late, legal.in_range.silence.0)

  some : 0 < k
  some = elim (cases_lt 0 k) [
    | inl more ↦ more
    | inr zero_k ↦ let none : k * T ≡ 0 * T = ap (λ n. n * T) (omega (arith, zero_k)) in absurd (omega (arith, later, none))
  ]

  long : scenario.params.bound < scenario.params.cycle
  long = omega (arith, legal.formulas.bound, legal.formulas.cycle)

  read : k * T < e.next
  read = omega (arith, h.read_end)

  none_some : (o : Option Nodes) (v : Nodes) → o ≡ None → o ≡ Some v → ⊥
  none_some o v a b = absurd (cc)

  -- cycles in order
  next_start : (c d : ℕ) → c < d → c * T + T ≤ d * T
  next_start c d less =
      let step : suc c * T ≤ d * T = mul-le-mul_right T less in
      let more : suc c * T ≡ c * T + T = grind arith in
      omega (arith, step, more)

  same_start : (c d : ℕ) → d * T ≤ c * T + Δ → c * T < d * T → ⊥
  same_start c d from to = elim (cases_lt c d) [
    | inl less ↦ omega (arith, next_start c d less, from, long)
    | inr not_less ↦ let step : d * T ≤ c * T = mul-le-mul_right T not_less in omega (arith, step, to)
  ]

  -- ---- where this incarnation has a view by the slot

  has_one : (n : ℕ) → t < n → HasViewBefore scenario s n i e
  has_one n after = elim (cases_lt 0 e.incarnation.number) [
    | inr first ↦ inl (omega (arith, first))
    | inl restarted ↦ elim (has_view scenario journal i e l restarted r (t + 1) (omega (arith, later, read))) [
      | inl none ↦ absurd (both_ways (has (View i e (t + 1)) r) none h.member)
      | inr had ↦ inr (had.0, had.1, omega (arith, had.2, after), had.3)
    ]
  ]

  -- ---- a cycle that starts before slot t, in which it installs no vector

  -- then nobody installs one in it or later
  none_from : (c : ℕ) → e.incarnation.from ≤ c * T → c * T + Δ < e.next → installed_as scenario s i e c ≡ None → 0 < c → (d : ℕ)
      → NobodyInstalls scenario s (c + d)
  none_from c part ended none begun zero =
      let same : c ≡ c + 0 = omega arith in
      subst (NobodyInstalls scenario s) same (λ x g is. by_vector x g is (installed_as scenario s x g c) refl)
    where
      by_vector : (x : ℕ) (g : EndedIncarnation) → IsIncarnation scenario (run scenario journal) x g → (o : Option Nodes)
          → installed_as scenario (run scenario journal) x g c ≡ o → installed_as scenario (run scenario journal) x g c ≡ None
      by_vector x g is None is_none = is_none
      by_vector x g is (Some v) is_some =
          let alike = (each_installs_one scenario legal journal within c).alike x i g e (view_read scenario legal journal within x g is c v is_some)
          (record { is = h.is; took_part = part; read = ended }) in
          alike ∙ none
  none_from c part ended none begun (suc d) =
      let same : c + d + 1 ≡ c + suc d = omega arith in
      subst (NobodyInstalls scenario s) same
      (nobody_next scenario legal journal within (c + d) (omega (arith, begun)) (none_from c part ended none begun d))

  -- but it stands in its own view when cycle k starts
  no_dead_cycle : (c : ℕ) → 0 < c → e.incarnation.from ≤ c * T → c * T + Δ < t → installed_as scenario s i e c ≡ None → ⊥
  no_dead_cycle c begun part early none = elim (cases_Bool (has (View i e (c * T)) i)) [
    | inl there ↦
        let v = member_installs scenario legal journal i c e begun l (omega (arith, early, later, read)) there in
        none_some (installed_as scenario s i e c) v.0 none v.1
    | inr out ↦
        let all : c * T + (k * T - c * T) ≡ k * T = omega (arith, early, later) in
        let one : k * T - 1 + 1 ≡ k * T = omega (arith, later) in
        let own : has (View i e (k * T)) i ≡ true = subst (λ n. has (View i e n) i ≡ true) one h.own in
        elim (view_changes scenario journal i i (c * T) e l false out (k * T - c * T) (omega (arith, all, read))) [
          | inl still ↦ both_ways (has (View i e (k * T)) i) (subst (λ n. has (View i e n) i ≡ false) all still) own
          | inr change ↦
              let d : ℕ = change.0 in
              elim (cases_lt d c) [
                | inl less ↦ omega (arith, next_start d c less, change.2, long)
                | inr not_less ↦
                    let same : c + (d - c) ≡ d = omega (arith, not_less) in
                    none_some (installed_as scenario s i e d) change.1
                    (subst (λ n. NobodyInstalls scenario s n) same (none_from c part (omega (arith, early, later, read)) none begun (d - c)) i e h.is) change.4
              ]
        ]
  ]

  -- ---- who takes part long before has the node in its view after slot t

  module _ (x : ℕ) (g : EndedIncarnation) (is : IsIncarnation scenario (run scenario journal) x g) (ran : t < g.next)
      (far : g.incarnation.from + (scenario.params.cycle + scenario.params.bound) ≤ t) where
    gl : Lived scenario journal x g
    gl = lived scenario journal x g is

    here : t < e.next
    here = omega (arith, later, read)

    from_same : members_as scenario s t i e ≡ members_as scenario s t x g → has (View x g (t + 1)) r ≡ true
    from_same same = ap (λ m. has m r) (sym same) ∙ h.member

    by_cycle : (c : ℕ) (v : Nodes) → installed_as scenario s i e c ≡ Some v → g.incarnation.from ≤ c * T → c * T + Δ ≤ t → has (View x g (t + 1)) r ≡ true
    by_cycle c v installs part early =
        from_same (equal_installed scenario legal journal within i x e g h.is is c
        (view_read scenario legal journal within i e h.is c v installs).took_part part v installs
        t early here ran)

    -- by the first cycle in which the other takes part
    by_first : 0 < g.incarnation.from → ((c : ℕ) → g.incarnation.from ≤ c * T → e.incarnation.from ≤ c * T) → has (View x g (t + 1)) r ≡ true
    by_first begun both =
        let first = first_start T g.incarnation.from (omega (arith, long)) in
        let c : ℕ = first.0 in
        let early : c * T + Δ < t = omega (arith, first.2, far) in
        by_vector c first.1 early (positive c first.1) (installed_as scenario s i e c) refl
      where
        positive : (c : ℕ) → g.incarnation.from ≤ c * T → 0 < c
        positive c from = elim (cases_lt 0 c) [
          | inl more ↦ more
          | inr zero_c ↦ let none : c * T ≡ 0 * T = ap (λ n. n * T) (omega (arith, zero_c)) in absurd (omega (arith, from, none, begun))
        ]

        by_vector : (c : ℕ) → g.incarnation.from ≤ c * T → c * T + Δ < t → 0 < c → (o : Option Nodes) → installed_as scenario (run scenario journal) i e c ≡ o
            → has (View x g (t + 1)) r ≡ true
        by_vector c from early more None none = absurd (no_dead_cycle c more (both c from) early none)
        by_vector c from early more (Some v) installs = by_cycle c v installs from (omega (arith, early))

    agrees : has (View x g (t + 1)) r ≡ true
    agrees = elim (has_one (t + 1) (omega arith)) [
      | inr had ↦ elim (cases_lt (had.0 * T) g.incarnation.from) [
        | inr part ↦ by_cycle had.0 had.1 had.3 part (omega (arith, had.2))
        | inl after ↦
            let took = (view_read scenario legal journal within i e h.is had.0 had.1 had.3).took_part in
            by_first (omega (arith, after)) (λ c from. omega (arith, from, after, took))
      ]
      | inl opening ↦ elim (cases_lt 0 g.incarnation.number) [
        | inr first ↦
            from_same (equal_original scenario legal journal within i x e g h.is is opening (omega (arith, first)) t (omega arith) here ran)
        | inl restarted ↦
            let at_once : e.incarnation.from ≡ 0 = (begins scenario journal i e l).first opening in
            by_first (begins_late scenario journal x g gl restarted) (λ c from. omega (arith, at_once))
      ]
    ]

  -- ---- at the start of a cycle after slot t, the node asks at nobody

  module _ (x : ℕ) (g : EndedIncarnation) (is : IsIncarnation scenario (run scenario journal) x g) (n : ℕ) (after : t < n)
      (until : n ≤ k * scenario.params.cycle)
      (reads : n < g.next) where
    no_joiner : has (knowledge_of (followed_by scenario g) x (first_read n (run scenario journal) x g)).joiners r ≡ false
    no_joiner = elim (cases_lt t (g.incarnation.from + (T + Δ))) [
      | inl near ↦
          let all : 0 + n ≡ n = omega arith in
          subst (λ m. has (knowledge_of (followed_by scenario g) x (first_read m s x g)).joiners r ≡ false) all
          (still_none scenario journal r t (k * T) silent x g is 0 (none_first scenario journal r t (k * T) silent x g is)
          (λ m from short before. gets_none scenario journal r t (k * T) silent x g is m short (omega (arith, before)) (elim (cases_lt m g.incarnation.from) [
            | inl early ↦ inr early
            | inr part ↦ inl (omega (arith, near, part))
          ])) n (omega (arith, reads)) (omega (arith, until)))
      | inr far ↦
          let ran : t < g.next = omega (arith, after, reads) in
          let all : t + 1 + (n - (t + 1)) ≡ n = omega (arith, after) in
          subst (λ m. has (knowledge_of (followed_by scenario g) x (first_read m s x g)).joiners r ≡ false) all
          (still_none scenario journal r t (k * T) silent x g is (t + 1)
          (member_no_joiner (followed_by scenario g) x r (first_read (t + 1) s x g) (agrees x g is ran far))
          (λ m from short before. gets_none scenario journal r t (k * T) silent x g is m short (omega (arith, before)) (inl (omega (arith, from))))
          (n - (t + 1)) (omega (arith, all, reads)) (omega (arith, all, until)))
    ]

    asks_none : has (after_asking scenario.params x (length (first_read n (run scenario journal) x g)) (next_read n (run scenario journal) x g)
        (knowledge_of (followed_by scenario g) x (first_read n (run scenario journal) x g))).joiners r ≡ false
    asks_none =
        asks_not scenario.params x r (length (first_read n s x g)) (next_read n s x g) (knowledge_of (followed_by scenario g) x (first_read n s x g))
        (gets_none scenario journal r t (k * T) silent x g is n reads until (inl (omega (arith, after)))) no_joiner

  -- ---- a cycle that starts without the node

  module _ (d : ℕ) (begun : 0 < d) (after : t < d * scenario.params.cycle) (until : d * scenario.params.cycle ≤ k * scenario.params.cycle)
      (out : has (knowledge_of (followed_by scenario e) i (first_read (d * scenario.params.cycle) (run scenario journal) i e)).members r ≡ false) where
    knows : KnowsItOutside scenario s r (d * T) i e
    knows =
        let one : d * T ≡ d * T - 1 + 1 = omega (arith, after) in
        record {
          is = h.is;
          view = has_one (d * T) after;
          read = omega (arith, until, read);
          outside = subst (λ n. has (View i e n) r ≡ false) one out;
        }

    starts_without : (x : ℕ) (g : EndedIncarnation) → IsIncarnation scenario s x g → d * T < g.next
        → Says r false (vector_at (followed_by scenario g) x (first_read (d * T + 1) s x g))
    starts_without x g is reads =
        let n : ℕ = d * T in
        let gl = lived scenario journal x g is in
        let past = first_read n s x g in
        let notice : NoticeKind = next_read n s x g in
        let at : length past ≡ n = first_read-length scenario journal x n g gl (omega (arith, reads)) in
        let cycle : IsCycle scenario.params d = cycle_of_formulas scenario.params legal.formulas d begun in
        let no_end : is_end scenario.params (length past) ≡ false = start_no_end scenario.params d (length past) cycle at in
        let starts =
        (turn_starts (followed_by scenario g) d x (record { some = cycle.some; exchanged = cycle.exchanged; long = cycle.long }) notice past at).vector in
        let one : n - 1 + 1 ≡ n = omega (arith, after) in
        let outside : has (View x g n) r ≡ false =
        subst (λ m. has (View x g m) r ≡ false) one
        (is_outside scenario legal journal within r n i e (omega (arith, after)) knows x g is (omega (arith, reads))) in
        subst (Says r false)
        (sym (ap (λ (q : List NoticeKind). vector_at (followed_by scenario g) x q) (first_read-more scenario journal x n g gl reads) ∙ starts))
        (lacks_says scenario.params x r (length past) notice (knowledge_of (followed_by scenario g) x past) no_end (inl outside)
        (asks_none x g is n after until reads))

    lacks : (x : ℕ) (g : EndedIncarnation) → IsIncarnation scenario s x g → Says r false (installed_as scenario s x g d)
    lacks x g is =
        let cycle : IsCycle scenario.params d = cycle_of_formulas scenario.params legal.formulas d begun in
        installs_say scenario legal.in_range.nodes.1 (few_nodes scenario.params legal.in_range) legal.members d r false below cycle journal
        (starts_say scenario journal d r false starts_without) x g is

  -- ---- from slot t on

  abbrev Stays : ℕ → Type 0
  Stays n = (m : ℕ) → t < m → m ≤ n → has (View i e m) r ≡ true

  -- once out it is not let in
  out_next : (n : ℕ) → t < n → n < k * T → has (View i e n) r ≡ false → has (View i e (n + 1)) r ≡ false
  out_next n after until out =
      ap (λ m. has m r) (members_more scenario journal i n e l (omega (arith, until, read))) ∙ by_ended (ended_as scenario s n i e) refl
    where
      -- it was out when the cycle started
      began_out : (d : ℕ) → n ≡ d * T + Δ → (b : Bool) → has (View i e (d * T)) r ≡ b → has (View i e n) r ≡ b
      began_out d at b was = elim (view_changes scenario journal i r (d * T) e l b was Δ (omega (arith, at, until, read))) [
        | inl still ↦ subst (λ m. has (View i e m) r ≡ b) (sym at) still
        | inr change ↦ elim (cases_lt change.0 d) [
          | inl less ↦ absurd (omega (arith, next_start change.0 d less, change.2, long))
          | inr not_less ↦ let step : d * T ≤ change.0 * T = mul-le-mul_right T not_less in absurd (omega (arith, step, change.3))
        ]
      ]

      began_late : (d : ℕ) → n ≡ d * T + Δ → t < d * T
      began_late d at = elim (cases_lt t (d * T)) [
        | inl late ↦ late
        | inr early ↦
            let all : t + 1 + (n - (t + 1)) ≡ n = omega (arith, after) in
            elim (view_changes scenario journal i r (t + 1) e l true h.member (n - (t + 1)) (omega (arith, all, until, read))) [
              | inl still ↦ absurd (both_ways (has (View i e n) r) out (subst (λ m. has (View i e m) r ≡ true) all still))
              | inr change ↦ elim (cases_lt change.0 d) [
                | inl less ↦ absurd (omega (arith, next_start change.0 d less, change.2, early, long))
                | inr not_less ↦ let step : d * T ≤ change.0 * T = mul-le-mul_right T not_less in absurd (omega (arith, step, change.3, all, at))
              ]
            ]
      ]

      by_ended : (o : Option Nodes) → ended_as scenario (run scenario journal) n i e ≡ o → has (members_by o (View i e n)) r ≡ false
      by_ended None is = out
      by_ended (Some v) is = elim (cases_Bool (is_end scenario.params n)) [
        | inr other ↦ absurd (none_some (ended_as scenario s n i e) v (ended_none scenario journal i n e l (omega (arith, until, read)) other) is)
        | inl end ↦
            let at = end_place scenario.params n end in
            let d : ℕ = cycle_of scenario.params n in
            let late = began_late d at.1 in
            elim (cases_Bool (has (View i e (d * T)) r)) [
              | inl there ↦ absurd (both_ways (has (View i e n) r) out (began_out d at.1 true there))
              | inr gone ↦
                  lacks d at.0 late (omega (arith, at.1, until)) gone i e h.is v
                  (sym (ended_installs scenario journal i d n e l (omega (arith, until, read)) at.1) ∙ is)
            ]
      ]

  stays_or_out : (d : ℕ) → t + 1 + d ≤ k * T → Stays (t + 1 + d) ⊎ (has (View i e (t + 1 + d)) r ≡ false)
  stays_or_out zero until =
      inl (λ m after before. let same : t + 1 ≡ m = omega (arith, after, before) in subst (λ n. has (View i e n) r ≡ true) same h.member)
  stays_or_out (suc d) until =
      let n : ℕ = t + 1 + d in
      let one : n + 1 ≡ t + 1 + suc d = omega arith in
      elim (stays_or_out d (omega (arith, until))) [
        | inr out ↦ inr (subst (λ m. has (View i e m) r ≡ false) one (out_next n (omega arith) (omega (arith, until)) out))
        | inl stays ↦ elim (cases_Bool (has (View i e (t + 1 + suc d)) r)) [
          | inr out ↦ inr out
          | inl there ↦ inl (λ m after before. elim (cases_eq m (t + 1 + suc d)) [
            | inl last ↦ subst (λ q. has (View i e q) r ≡ true) (sym last) there
            | inr other ↦ stays m after (omega (arith, before, other))
          ])
        ]
      ]

  -- ---- when cycle k starts

  failed_out : Stays (k * T) → IsLeftOut scenario s r k
  failed_out stays =
      let n : ℕ = k * T in
      let c : IsCycle scenario.params k = cycle_of_formulas scenario.params legal.formulas k some in
      let one : n - 1 + 1 ≡ n = omega (arith, later) in
      let no_end : is_end scenario.params n ≡ false = start_no_end scenario.params k n c refl in
      let still : View i e (n + 1) ≡ View i e n =
      members_more scenario journal i n e l read ∙ ap (λ v. members_by v (View i e n)) (ended_none scenario journal i n e l read no_end) in
      let heard : HearsNothingOf scenario s i e r t n = record {
        is = h.is;
        there = below;
        other = h.other;
        later = later;
        read = read;
        member = λ slot from before. stays (slot + 1) (omega (arith, from)) (omega (arith, before));
        nothing = quiet;
      } in
      let found = detected scenario journal (few_nodes scenario.params legal.in_range) i r t n e heard h.late in
      let cycle : cycle_of scenario.params n ≡ k = (at_place scenario.params k n 0 (omega arith) (omega (arith, long))).cycle in
      left_out scenario legal journal within i r k e (record {
        is = h.is;
        some = some;
        read = h.read_end;
        own = ap (λ m. has m i) still ∙ subst (λ m. has (View i e m) i ≡ true) one h.own;
        member = ap (λ m. has m r) still ∙ stays n later (omega arith);
        failed = found.after_start (omega (arith, ap (λ d. d * T) cycle, later));
      })

  pub removed : IsLeftOut scenario (run scenario journal) r k
  removed =
      let all : t + 1 + (k * T - (t + 1)) ≡ k * T = omega (arith, later) in
      elim (stays_or_out (k * T - (t + 1)) (omega (arith, all))) [
        | inl stays ↦ failed_out (subst Stays all stays)
        | inr out ↦ λ j f jf v installs. lacks k some later (omega arith) (subst (λ n. has (View i e n) r ≡ false) all out) j f jf v installs
      ]
