-- A member that is not heard for as long as the silence has failed: of each incarnation that does
-- not hear it.
use Rattle.std.proofs.Common.{◌≡◌, ℕ, zero, suc, ◌+◌, ◌-◌, ◌<◌, ◌≤◌, ◌⊎◌, inl, inr, Bool, true, false, List, [], ◌∷◌, length, take, get_or, refl, ap, sym, ◌∙◌, subst, arith, length-drop}
use Rattle.std.specs.List.{list_any}
use Rattle.std.proofs.lemmas.Bool.{both_ways, cases_Bool, false_from_ne_true, or_left, or_right}
use Rattle.std.proofs.lemmas.List.{get_or-drop}
use Rattle.cany_base.specs.Limits.{most_nodes}
use Rattle.cany_base.specs.declared.notice.NoticeKind.{NoticeKind}
use Rattle.cany_base.specs.declared.notice.NoticeKind.TheVariants.{Idle}
use Rattle.cany_base.specs.declared.step.Step.{Step}
use Rattle.cany_base.specs.Nodes.{has}
use Rattle.cany_base.specs.Scenario.{ScenarioParts}
use Rattle.cany_model.specs.Bus.History.{history}
use Rattle.cany_model.specs.Bus.State.{EndedIncarnation, Incarnation, RunState, node_at}
use Rattle.cany_model.specs.Rules.Knowledge.{FailureSign, Knowledge, hears_life, knows, sign_in}
use Rattle.cany_model.specs.Rules.KnowledgeOf.{knowledge_of}
use Rattle.cany_model.specs.Rules.Notices.{IsReadable}
use Rattle.cany_model.specs.Rules.Turn.{scenario_for}
use Rattle.cany_model.specs.Runs.Run.{run}
use Rattle.cany_model.proofs.Bus.EachRead.{EachRead, each_dropped}
use Rattle.cany_model.proofs.Bus.Seen.{history-is}
use Rattle.cany_model.proofs.Timed.Detector.SilentNode.{known_begun, shown_by}
use Rattle.cany_model.proofs.Timed.Detector.SilentNode.{failed_next}
use Rattle.cany_model.proofs.Timed.Views.ReadableNodes.{run_readable}
use Rattle.cany_laws.specs.Detection.{HasFailedBy, HearsNothingOf, IsDetected}
use Rattle.cany_laws.specs.Logs.{followed_by, past_of, past_to}
use Rattle.cany_laws.proofs.Members.EqualMembers.{first_read, first_read-length, first_read-more, next_read}
use Rattle.cany_laws.proofs.Members.EachView.{past_length}
use Rattle.cany_laws.proofs.Silences.Lives.{Lived, lived}
use Rattle.cany_laws.proofs.Silences.Silence.{known_or_fails, shown_kept, silent_fails}

-- ---- what an incarnation has read

any_in_take : {X : Type 0} (test : X → Bool) (n k : ℕ) (xs : List X) (d : X) → k < n → k < length xs → test (get_or xs k d) ≡ true
    → list_any test (take n xs) ≡ true
any_in_take test zero k xs d below there h = absurd (omega (arith, below))
any_in_take test (suc n) k [] d below there h = absurd (omega (arith, there))
any_in_take test (suc n) zero (x ∷ xs) d below there h = or_left (test x) (list_any test (take n xs)) h
any_in_take test (suc n) (suc k) (x ∷ xs) d below there h =
    or_right (test x) (list_any test (take n xs)) (any_in_take test n k xs d (omega (arith, below)) (omega (arith, there)) h)

-- it belongs to the scenario
pub readable_as : (scenario : ScenarioParts) (journal : List Step) → scenario.params.nodes ≤ most_nodes → (i n : ℕ) (e : EndedIncarnation)
    → Lived scenario journal i e → EachRead (IsReadable (followed_by scenario e)) (first_read n (run scenario journal) i e)
readable_as scenario journal few i n e l =
    each_dropped (IsReadable (followed_by scenario e)) (e.next - n) (past_of (run scenario journal) i e)
    (subst (EachRead (IsReadable (followed_by scenario e))) l.past
    (subst (λ (inc : Incarnation). EachRead (IsReadable (scenario_for scenario inc)) (history i (run scenario l.front))) l.present
    (subst (EachRead (IsReadable (scenario_for scenario (node_at (run scenario l.front).nodes i).present))) (sym (history-is i (run scenario l.front)))
    (run_readable scenario l.front few i))))

-- ---- slot by slot

module _ (scenario : ScenarioParts) (journal : List Step) (few : scenario.params.nodes ≤ most_nodes) (i r t u : ℕ) (e : EndedIncarnation)
    (h : HearsNothingOf scenario (run scenario journal) i e r t u) where
  abbrev s : RunState
  s = run scenario journal

  l : Lived scenario journal i e
  l = lived scenario journal i e h.is

  abbrev sc : ScenarioParts
  sc = followed_by scenario e

  abbrev K : ℕ → Knowledge
  K n = knowledge_of sc i (first_read n s i e)

  abbrev sign : FailureSign
  sign = sign_in scenario.params u r

  below : r < most_nodes
  below = omega (arith, h.there, few)

  more : (n : ℕ) → n < e.next → K (n + 1) ≡ knowledge_of sc i (next_read n s i e ∷ first_read n s i e)
  more n short = ap (knowledge_of sc i) (first_read-more scenario journal i n e l short)

  size : (n : ℕ) → n ≤ e.next → length (first_read n s i e) ≡ n
  size n short = first_read-length scenario journal i n e l short

  member_at : (n : ℕ) → t < n → n ≤ u → has (K n).members r ≡ true
  member_at n after until =
      let one : n - 1 + 1 ≡ n = omega (arith, after) in
      subst (λ k. has (K k).members r ≡ true) one (h.member (n - 1) (omega (arith, after)) (omega (arith, after, until)))

  -- the notice of a slot after t and up to u
  quiet_at : (n : ℕ) → t < n → n ≤ u → hears_life r (next_read n s i e) ≡ false
  unfolding next_read
  quiet_at n after until = false_from_ne_true (hears_life r (get_or (past_of s i e) (e.next - (n + 1)) Idle)) (λ loud.
      let read = h.read in
      let drops : ℕ = e.next - (u + 1) in
      let place : drops + (u - n) ≡ e.next - (n + 1) = omega (arith, read, until) in
      let long : length (past_to u s i e) ≡ u + 1 = omega (arith, length-drop drops (past_of s i e), past_length scenario journal i e l, read) in
      let at : get_or (past_to u s i e) (u - n) Idle ≡ get_or (past_of s i e) (e.next - (n + 1)) Idle =
      get_or-drop drops (past_of s i e) (u - n) Idle ∙ ap (λ k. get_or (past_of s i e) k Idle) place in
      both_ways (list_any (hears_life r) (take (u - t) (past_to u s i e))) h.nothing
      (any_in_take (hears_life r) (u - t) (u - n) (past_to u s i e) Idle (omega (arith, after, until)) (omega (arith, long, until)) (ap (hears_life r) at ∙ loud)))

  -- r has failed, or was not shown since t, and then its sign is not known but if it was by t
  abbrev Fades : ℕ → Type 0
  Fades n = (has (K n).failed r ≡ true) ⊎ (((K n).shown r ≤ t) × (knows sign (K n) ≡ true → knows sign (K (t + 1)) ≡ true))

  fades_first : Fades (t + 1)
  fades_first =
      let read = h.read in
      let later = h.later in
      let short : t < e.next = omega (arith, read, later) in
      inr (
        omega (arith, ap (λ (k : Knowledge). k.shown r) (more t short), shown_by sc i r (next_read t s i e) (first_read t s i e), size t (omega (arith, short))),
        λ known. known,
      )

  fades_more : (n : ℕ) → t < n → n < u → Fades n → Fades (n + 1)
  fades_more n after until f =
      let read = h.read in
      let short : n < e.next = omega (arith, read, until) in
      let past : List NoticeKind = first_read n s i e in
      let notice : NoticeKind = next_read n s i e in
      let member = member_at n after (omega (arith, until)) in
      let quiet = quiet_at n after (omega (arith, until)) in
      elim f [
        | inl failed ↦ inl (ap (λ (k : Knowledge). has k.failed r) (more n short) ∙ failed_next sc i r notice past member below failed)
        | inr both ↦ elim (cases_Bool (has (knowledge_of sc i (notice ∷ past)).failed r)) [
          | inl fails ↦ inl (ap (λ (k : Knowledge). has k.failed r) (more n short) ∙ fails)
          | inr stands ↦ inr (
            omega (arith, ap (λ (k : Knowledge). k.shown r) (more n short), shown_kept sc i r notice past below member quiet, both.0),
            λ known. elim (known_or_fails sc i r notice past below member sign refl (ap (knows sign) (sym (more n short)) ∙ known)) [
              | inl before ↦ both.1 before
              | inr fails ↦ absurd (both_ways (has (knowledge_of sc i (notice ∷ past)).failed r) stands fails)
            ],
          )
        ]
      ]

  fades : (d : ℕ) → t + 1 + d ≤ u → Fades (t + 1 + d)
  fades zero until = subst Fades (omega arith) fades_first
  fades (suc d) until =
      subst Fades (omega arith) (fades_more (t + 1 + d) (omega arith) (omega (arith, until)) (fades d (omega (arith, until))))

  -- after the turn of slot u
  fails : t + scenario.params.silence ≤ u → HasFailedBy scenario s u i e r ⊎ (knows sign (K (t + 1)) ≡ true)
  fails late =
      let read = h.read in
      let later = h.later in
      let past : List NoticeKind = first_read u s i e in
      let notice : NoticeKind = next_read u s i e in
      let member = member_at u later (omega arith) in
      let all : t + 1 + (u - (t + 1)) ≡ u = omega (arith, later) in
      let now : Fades u = subst Fades all (fades (u - (t + 1)) (omega (arith, later))) in
      let same : K (u + 1) ≡ knowledge_of sc i (notice ∷ past) = more u read in
      let slot : length past ≡ u = size u (omega (arith, read)) in
      elim now [
        | inl failed ↦ inl (ap (λ (k : Knowledge). has k.failed r) same ∙ failed_next sc i r notice past member below failed)
        | inr both ↦ elim (cases_Bool (knows sign (K u))) [
          | inl known ↦ inr (both.1 known)
          | inr unknown ↦ inl (ap (λ (k : Knowledge). has k.failed r) same
              ∙ silent_fails sc i r notice past below member h.there h.other (quiet_at u later (omega arith)) t both.0 (omega (arith, late, slot))
              (ap (λ n. knows (sign_in scenario.params n r) (knowledge_of sc i past)) slot ∙ unknown))
        ]
      ]

  pub detected : t + scenario.params.silence ≤ u → IsDetected scenario s i e r t u
  detected late = record {
    failed = fails late;
    after_start = λ start. elim (fails late) [
      | inl failed ↦ failed
      | inr known ↦
          let read = h.read in
          let later = h.later in
          let begun = known_begun sc i sign (first_read (t + 1) s i e) (readable_as scenario journal few i (t + 1) e l) known in
          absurd (omega (arith, start, begun, size (t + 1) (omega (arith, read, later))))
    ];
  }
