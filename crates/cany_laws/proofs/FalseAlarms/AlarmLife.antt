-- What an incarnation knows, slot by slot, of its view and of the life of the nodes in it; and that
-- one which has a node in its view has heard the last life of that node's first incarnation.
use Rattle.std.proofs.Common.{◌≡◌, ℕ, zero, suc, ◌+◌, ◌-◌, ◌*◌, ◌<◌, ◌≤◌, ◌⊎◌, inl, inr, true, false, List, ◌∷◌, length, map, drop, Option, Some, None, refl, ap, sym, ◌∙◌, subst, arith, drop-drop}
use Rattle.std.proofs.lemmas.Bool.{both_ways, cases_Bool, cases_eq, false≢true, ne_eqb}
use Rattle.cany_base.proofs.NodesFacts.{has_none}
use Rattle.cany_base.specs.Cycles.{cycle_of, is_end}
use Rattle.cany_base.specs.declared.step.Step.{Step}
use Rattle.cany_base.specs.Frame.{FrameParts}
use Rattle.cany_base.specs.Limits.{most_nodes}
use Rattle.cany_base.specs.Nodes.{Nodes, has, nobody}
use Rattle.cany_base.specs.Scenario.{IsLegalScenario, ScenarioParts}
use Rattle.cany_model.specs.Bus.History.{ended_history, given, is_hidden, seen}
use Rattle.cany_model.specs.Bus.State.{EndedIncarnation, RunState}
use Rattle.cany_model.specs.Promises.Hypothesis.{IsWithin}
use Rattle.cany_model.specs.Rules.Knowledge.{Knowledge}
use Rattle.cany_model.specs.Rules.KnowledgeOf.{knowledge_of}
use Rattle.cany_model.specs.Runs.Run.{run}
use Rattle.cany_model.proofs.Bus.Seen.{drop_seen}
use Rattle.cany_model.proofs.Rules.IncarnationFacts.{scenario_for-original}
use Rattle.cany_model.proofs.Rules.Site.KnowledgeSteps.{members_by}
use Rattle.cany_model.proofs.Timed.Common.KnowledgeAges.{ComesIn, IsLifeOf, IsOwnLife, last_why, shown_comes, shown_either, shown_got}
use Rattle.cany_model.proofs.Timed.Views.SameView.{end_place}
use Rattle.cany_laws.specs.Logs.{IsIncarnation, followed_by}
use Rattle.cany_laws.specs.Views.{installed_as}
use Rattle.cany_laws.proofs.FalseAlarms.AlarmNotices.{hears, note_in, own_is, plain_after, plain_original}
use Rattle.cany_laws.proofs.Members.EachView.{view_read}
use Rattle.cany_laws.proofs.Members.EqualMembers.{ended_as, ended_installs, ended_none, first_read, first_read-length, first_read-more, first_read-none, members_more, next_read, one_membership}
use Rattle.cany_laws.proofs.KeptAlongJournal.{drop-map}
use Rattle.cany_laws.proofs.Silences.Lives.{Lived, lived}
use Rattle.cany_laws.proofs.Since.{begins}

-- ---- one incarnation

module _ (scenario : ScenarioParts) (journal : List Step) (i : ℕ) (e : EndedIncarnation) (l : Lived scenario journal i e) where
  abbrev s : RunState
  s = run scenario journal

  -- what it knew when it had read so many slots
  abbrev pub known_at : ℕ → Knowledge
  known_at n = knowledge_of (followed_by scenario e) i (first_read n (run scenario journal) i e)

  pub known_more : (n : ℕ) → n < e.next
      → known_at (n + 1) ≡ knowledge_of (followed_by scenario e) i (next_read n (run scenario journal) i e ∷ first_read n (run scenario journal) i e)
  known_more n short = ap (knowledge_of (followed_by scenario e) i) (first_read-more scenario journal i n e l short)

  size : (n : ℕ) → n ≤ e.next → length (first_read n s i e) ≡ n
  size n short = first_read-length scenario journal i n e l short

  -- what it had read is what the slots gave it
  pub first_read-is : (n : ℕ) → n ≤ e.next
      → first_read n (run scenario journal) i e
      ≡ map (given i) (seen e.incarnation (drop (length (run scenario journal).trace - n) (run scenario journal).trace))
  unfolding ended_history
  first_read-is n read =
      let short = l.short in
      drop-map (e.next - n) (given i) (drop (length s.trace - e.next) (seen e.incarnation s.trace))
      ∙ ap (map (given i))
      (drop-drop (e.next - n) (length s.trace - e.next) (seen e.incarnation s.trace)
      ∙ ap (λ k. drop k (seen e.incarnation s.trace)) (omega (arith, short, read))
      ∙ drop_seen (length s.trace - n) e.incarnation s.trace)

  shown_step : (r n : ℕ) → n < e.next → ((known_at (n + 1)).shown r ≡ n) ⊎ ((known_at (n + 1)).shown r ≡ (known_at n).shown r)
  shown_step r n below =
      let same = ap (λ (k : Knowledge). k.shown r) (known_more n below) in
      elim (shown_either (followed_by scenario e) i (next_read n s i e) (first_read n s i e) r) [
        | inl now ↦ inl (same ∙ now ∙ size n (omega (arith, below)))
        | inr kept ↦ inr (same ∙ kept)
      ]

  shown_within : (r n : ℕ) → n ≤ e.next → (known_at n).shown r ≤ n
  unfolding knowledge_of
  shown_within r zero read = omega (arith, ap (λ past. (knowledge_of (followed_by scenario e) i past).shown r) (first_read-none scenario journal i e l))
  shown_within r (suc n) read =
      let up : n + 1 ≡ suc n = omega arith in
      let before = shown_within r n (omega (arith, read)) in
      subst (λ m. (known_at m).shown r ≤ m) up (elim (shown_step r n (omega (arith, read))) [
        | inl now ↦ omega (arith, now)
        | inr kept ↦ omega (arith, kept, before)
      ])

  -- it only moves on
  pub shown_later : (r n d : ℕ) → n + d ≤ e.next → (known_at n).shown r ≤ (known_at (n + d)).shown r
  shown_later r n zero read = let same : n ≡ n + 0 = omega arith in omega (arith, ap (λ m. (known_at m).shown r) same)
  shown_later r n (suc d) read =
      let up : (n + d) + 1 ≡ n + suc d = omega arith in
      let before = shown_later r n d (omega (arith, read)) in
      let bound = shown_within r (n + d) (omega (arith, read)) in
      subst (λ m. (known_at n).shown r ≤ (known_at m).shown r) up (elim (shown_step r (n + d) (omega (arith, read))) [
        | inl now ↦ omega (arith, now, before, bound)
        | inr kept ↦ omega (arith, kept, before)
      ])

  pub shown_then : (r n : ℕ) → n < e.next → IsLifeOf r (next_read n (run scenario journal) i e) → (known_at (n + 1)).shown r ≡ n
  shown_then r n below life =
      ap (λ (k : Knowledge). k.shown r) (known_more n below)
      ∙ shown_got (followed_by scenario e) i (next_read n s i e) (first_read n s i e) r life ∙ size n (omega (arith, below))

  comes_then : (r n : ℕ) → n < e.next → r < most_nodes → has (known_at n).members r ≡ false → has (known_at (n + 1)).members r ≡ true
      → (known_at (n + 1)).shown r ≡ n
  comes_then r n below few out there =
      ap (λ (k : Knowledge). k.shown r) (known_more n below)
      ∙ shown_comes (followed_by scenario e) i (next_read n s i e) (first_read n s i e) r few
      (out, ap (λ (k : Knowledge). has k.members r) (sym (known_more n below)) ∙ there) ∙ size n (omega (arith, below))

  -- one that has come into the view has shown life since
  pub shown_since : (r n d : ℕ) → n + d ≤ e.next → r < most_nodes → has (known_at n).members r ≡ false → has (known_at (n + d)).members r ≡ true
      → n ≤ (known_at (n + d)).shown r
  shown_since r n zero read few out there =
      let same : n ≡ n + 0 = omega arith in
      absurd (both_ways (has (known_at n).members r) out (ap (λ m. has (known_at m).members r) same ∙ there))
  shown_since r n (suc d) read few out there =
      let up : (n + d) + 1 ≡ n + suc d = omega arith in
      let there' : has (known_at ((n + d) + 1)).members r ≡ true = ap (λ m. has (known_at m).members r) up ∙ there in
      subst (λ m. n ≤ (known_at m).shown r) up (elim (cases_Bool (has (known_at (n + d)).members r)) [
        | inl before ↦
            let rest = shown_since r n d (omega (arith, read)) few out before in
            let later = shown_later r (n + d) 1 (omega (arith, read)) in
            omega (arith, rest, later)
        | inr absent ↦ omega (arith, comes_then r (n + d) (omega (arith, read)) few absent there')
      ])

  pub last_step : (n : ℕ) → n < e.next
      → ((known_at (n + 1)).last ≡ n) × (IsOwnLife i (next_read n (run scenario journal) i e) ⊎ ComesIn i (known_at n).members (known_at (n + 1)).members)
      ⊎ ((known_at (n + 1)).last ≡ (known_at n).last)
  last_step n below =
      let same = ap (λ (k : Knowledge). k.last) (known_more n below) in
      elim (last_why (followed_by scenario e) i (next_read n s i e) (first_read n s i e)) [
        | inr kept ↦ inr (same ∙ kept)
        | inl now ↦ inl (
          same ∙ now.0 ∙ size n (omega (arith, below)),
          elim now.1 [
            | inl own ↦ inl own
            | inr comes ↦ inr (comes.0, ap (λ (k : Knowledge). has k.members i) (known_more n below) ∙ comes.1)
          ],
        )
      ]

  pub last_within : (n : ℕ) → n ≤ e.next → (known_at n).last ≤ n
  unfolding knowledge_of
  last_within zero read = omega (arith, ap (λ past. (knowledge_of (followed_by scenario e) i past).last) (first_read-none scenario journal i e l))
  last_within (suc n) read =
      let up : n + 1 ≡ suc n = omega arith in
      let before = last_within n (omega (arith, read)) in
      subst (λ m. (known_at m).last ≤ m) up (elim (last_step n (omega (arith, read))) [
        | inl now ↦ omega (arith, now.0)
        | inr kept ↦ omega (arith, kept, before)
      ])

-- ---- a view that is not empty

-- in the first n slots it has installed a vector, in a cycle since whose start it takes part
pub record HasInstalled (scenario : ScenarioParts) (s : RunState) (i n : ℕ) (e : EndedIncarnation) : Type 0 where
  pub k : ℕ
  pub from : e.incarnation.from ≤ k * scenario.params.cycle
  pub before : k * scenario.params.cycle + scenario.params.bound < n
  pub vector : Nodes
  pub is : installed_as scenario s i e k ≡ Some vector

abbrev pub HasReason : (scenario : ScenarioParts) (s : RunState) (i n : ℕ) (e : EndedIncarnation) → Type 0
HasReason scenario s i n e = (e.incarnation.number ≡ 0) ⊎ HasInstalled scenario s i n e

-- an incarnation that has a node in its view is that of the opening, or has installed a vector
module _ (scenario : ScenarioParts) (legal : IsLegalScenario scenario) (journal : List Step) (within : IsWithin scenario.params (run scenario journal).trace)
    (i : ℕ) (e : EndedIncarnation) (is : IsIncarnation scenario (run scenario journal) i e) where
  abbrev le : Lived scenario journal i e
  le = lived scenario journal i e is

  nobody_first : (r : ℕ) → (e.incarnation.number ≡ 0 → ⊥) → has (known_at scenario journal i e le 0).members r ≡ true → ⊥
  unfolding knowledge_of
  nobody_first r later there =
      let none : (followed_by scenario e).members ≡ nobody = rw (ne_eqb e.incarnation.number 0 later) refl in
      let same : (known_at scenario journal i e le 0).members ≡ nobody =
      ap (λ past. (knowledge_of (followed_by scenario e) i past).members) (first_read-none scenario journal i e le) ∙ none in
      false≢true (sym (has_none r) ∙ ap (λ m. has m r) (sym same) ∙ there)

  pub has_reason : (r n : ℕ) → n ≤ e.next → has (known_at scenario journal i e (lived scenario journal i e is) n).members r ≡ true
      → HasReason scenario (run scenario journal) i n e
  has_reason r n read there = elim (cases_eq e.incarnation.number 0) [
    | inl first ↦ inl first
    | inr later ↦ inr (installs r later n read there)
  ]
    where
      s : RunState
      s = run scenario journal

      K : ℕ → Knowledge
      K n = known_at scenario journal i e (lived scenario journal i e is) n

      wider : (n : ℕ) → HasInstalled scenario s i n e → HasInstalled scenario s i (n + 1) e
      wider n h = record { k = h.k; from = h.from; before = omega (arith, h.before); vector = h.vector; is = h.is }

      by_vector : (n : ℕ) (o : Option Nodes) (k : ℕ) → n ≡ k * scenario.params.cycle + scenario.params.bound → installed_as scenario s i e k ≡ o
          → ((o ≡ None) → HasInstalled scenario s i (n + 1) e) → HasInstalled scenario s i (n + 1) e
      by_vector n None k at same none = none refl
      by_vector n (Some v) k at same none = record {
        k = k;
        from = (view_read scenario legal journal within i e is k v same).took_part;
        before = omega (arith, at);
        vector = v;
        is = same;
      }

      installs : (r : ℕ) → (e.incarnation.number ≡ 0 → ⊥) → (n : ℕ) → n ≤ e.next
          → has (known_at scenario journal i e (lived scenario journal i e is) n).members r ≡ true
          → HasInstalled scenario (run scenario journal) i n e
      installs r later zero read there = absurd (nobody_first r later there)
      installs r later (suc n) read there =
          let up : n + 1 ≡ suc n = omega arith in
          let l : Lived scenario journal i e = lived scenario journal i e is in
          let now : has (known_at scenario journal i e l (n + 1)).members r ≡ true = ap (λ m. has (known_at scenario journal i e l m).members r) up ∙ there in
          let before : (v : Option Nodes) → ended_as scenario s n i e ≡ None → has (known_at scenario journal i e l n).members r ≡ true = λ v none.
          ap (λ m. has m r) (sym (members_more scenario journal i n e l (omega (arith, read))
          ∙ ap (λ w. members_by w (known_at scenario journal i e l n).members) none)) ∙ now in
          subst (λ m. HasInstalled scenario s i m e) up (elim (cases_Bool (is_end scenario.params n)) [
            | inr none ↦
                wider n (installs r later n (omega (arith, read)) (before None (ended_none scenario journal i n e l (omega (arith, read)) none)))
            | inl end ↦
                let at = end_place scenario.params n end in
                let k : ℕ = cycle_of scenario.params n in
                by_vector n (installed_as scenario s i e k) k at.1 refl (λ none.
                wider n (installs r later n (omega (arith, read)) (before None (ended_installs scenario journal i k n e l (omega (arith, read)) at.1 ∙ none))))
          ])

-- ---- two incarnations

module _ (scenario : ScenarioParts) (legal : IsLegalScenario scenario) (journal : List Step) (within : IsWithin scenario.params (run scenario journal).trace)
    (r j : ℕ) (other : r ≡ j → ⊥) (f e : EndedIncarnation) (first : f.incarnation.number ≡ 0)
    (rf : IsIncarnation scenario (run scenario journal) r f) (je : IsIncarnation scenario (run scenario journal) j e) where
  abbrev Kr : ℕ → Knowledge
  Kr n = known_at scenario journal r f (lived scenario journal r f rf) n

  abbrev Kj : ℕ → Knowledge
  Kj n = known_at scenario journal j e (lived scenario journal j e je) n

  from_first : f.incarnation.from ≡ 0
  from_first = (begins scenario journal r f (lived scenario journal r f rf)).first first

  -- one that has node r in its view has the view that node r has
  same_by : (n : ℕ) → n ≤ e.next → n ≤ f.next → HasReason scenario (run scenario journal) j n e → (Kj n).members ≡ (Kr n).members
  unfolding knowledge_of
  same_by zero re rf' (inl begun) =
      ap (λ past. (knowledge_of (followed_by scenario e) j past).members) (first_read-none scenario journal j e (lived scenario journal j e je))
      ∙ ap (λ (sc : ScenarioParts). sc.members) (scenario_for-original scenario e.incarnation begun)
      ∙ sym (ap (λ past. (knowledge_of (followed_by scenario f) r past).members) (first_read-none scenario journal r f (lived scenario journal r f rf))
      ∙ ap (λ (sc : ScenarioParts). sc.members) (scenario_for-original scenario f.incarnation first))
  same_by zero re rf' (inr h) = absurd (omega (arith, h.before))
  same_by (suc n) re rf' (inl begun) =
      let up : n + 1 ≡ suc n = omega arith in
      subst (λ m. (Kj m).members ≡ (Kr m).members) up
      ((one_membership scenario legal journal within).original j r e f je rf begun first n (omega arith) (omega (arith, re)) (omega (arith, rf')))
  same_by (suc n) re rf' (inr h) =
      let up : n + 1 ≡ suc n = omega arith in
      subst (λ m. (Kj m).members ≡ (Kr m).members) up
      ((one_membership scenario legal journal within).installed j r e f je rf h.k h.from (omega (arith, from_first)) h.vector h.is n
      (omega (arith, h.before)) (omega (arith, re)) (omega (arith, rf')))

  pub same_views : (n : ℕ) → n ≤ e.next → n ≤ f.next → has (Kj n).members r ≡ true → (Kj n).members ≡ (Kr n).members
  same_views n re rf' there = same_by n re rf' (has_reason scenario legal journal within j e je r n re there)

  -- from then on it sees life that node r shows
  pub hears_since : (n : ℕ) → n < e.next → has (Kj n).members r ≡ true ⊎ HasReason scenario (run scenario journal) j n e
      → IsOwnLife r (given r (note_in (run scenario journal).trace n)) → IsLifeOf r (next_read n (run scenario journal) j e)
  hears_since n re why own =
      hears scenario legal journal within r j n e other (lived scenario journal j e je) je.there re
      (sees (elim why [ inl there ↦ has_reason scenario legal journal within j e je r n (omega (arith, re)) there | inr reason ↦ reason ])) own
    where
      sees : HasReason scenario (run scenario journal) j n e → (g : FrameParts) → (note_in (run scenario journal).trace n).frame ≡ Some g
          → is_hidden e.incarnation (note_in (run scenario journal).trace n) ≡ false
      sees (inl begun) g frame = plain_original e.incarnation (note_in (run scenario journal).trace n) begun
      sees (inr h) g frame = plain_after scenario legal journal j n h.k e (lived scenario journal j e je) re h.from (omega (arith, h.before)) g frame

  -- so it has heard the last life that node r knows of
  pub last_heard : r < most_nodes → (n : ℕ) → n ≤ e.next → n ≤ f.next → has (Kj n).members r ≡ true → (Kr n).last ≤ (Kj n).shown r
  last_heard few zero re rf' there =
      let none = last_within scenario journal r f (lived scenario journal r f rf) 0 rf' in
      omega (arith, none)
  last_heard few (suc n) re rf' there =
      let up : n + 1 ≡ suc n = omega arith in
      let now : has (Kj (n + 1)).members r ≡ true = ap (λ m. has (Kj m).members r) up ∙ there in
      let lj : Lived scenario journal j e = lived scenario journal j e je in
      let lr : Lived scenario journal r f = lived scenario journal r f rf in
      let ne : n < e.next = omega (arith, re) in
      let nf : n < f.next = omega (arith, rf') in
      let most = last_within scenario journal r f lr n (omega (arith, nf)) in
      subst (λ m. (Kr m).last ≤ (Kj m).shown r) up (elim (cases_Bool (has (Kj n).members r)) [
        | inr out ↦
            let since = comes_then scenario journal j e lj r n ne few out now in
            elim (last_step scenario journal r f lr n nf) [
              | inl set ↦ omega (arith, set.0, since)
              | inr kept ↦ omega (arith, kept, most, since)
            ]
        | inl member ↦
            let before = last_heard few n (omega (arith, ne)) (omega (arith, nf)) member in
            let later = shown_later scenario journal j e lj r n 1 (omega (arith, ne)) in
            elim (last_step scenario journal r f lr n nf) [
              | inr kept ↦ omega (arith, kept, before, later)
              | inl (set, inl own) ↦
                  let got = shown_then scenario journal j e lj r n ne
                  (hears_since n ne (inl member) (subst (IsOwnLife r) (own_is scenario legal journal r n f lr nf first) own)) in
                  omega (arith, set, got)
              | inl (set, inr comes) ↦
                  absurd (both_ways (has (Kr n).members r) comes.0
                  (ap (λ m. has m r) (sym (same_views n (omega (arith, ne)) (omega (arith, nf)) member)) ∙ member))
            ]
      ])
