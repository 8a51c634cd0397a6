-- A member that starts a cycle and reads it to its end installs a vector; and where nobody installs
-- one in a cycle, nobody does in the next.
use Rattle.std.proofs.Common.{◌≡◌, ℕ, zero, suc, ◌+◌, ◌-◌, ◌*◌, ◌<◌, ◌≤◌, ◌⊎◌, inl, inr, Bool, true, false, List, ◌∷◌, length, Option, Some, None, refl, ap, sym, ◌∙◌, subst, arith}
use Rattle.std.proofs.Math.Nat.{mul-le-mul_right}
use Rattle.std.proofs.lemmas.Bool.{both_ways, cases_Bool, cases_lt, cond-true}
use Rattle.cany_base.proofs.ParamsFacts.{few_nodes}
use Rattle.cany_base.specs.Cycles.{cycle_of, is_end, is_start}
use Rattle.cany_base.specs.declared.notice.NoticeKind.{NoticeKind}
use Rattle.cany_base.specs.declared.step.Step.{Step}
use Rattle.cany_base.specs.Nodes.{Nodes, has}
use Rattle.cany_base.specs.Params.{Parameters}
use Rattle.cany_base.specs.Scenario.{IsLegalScenario, ScenarioParts}
use Rattle.cany_model.specs.Bus.State.{EndedIncarnation, RunState}
use Rattle.cany_model.specs.Promises.Hypothesis.{IsWithin}
use Rattle.cany_model.specs.Rules.Knowledge.{Knowledge}
use Rattle.cany_model.specs.Rules.KnowledgeOf.{after_installing, knowledge_of, start_in}
use Rattle.cany_model.specs.Rules.Vectors.{met, met_with}
use Rattle.cany_model.specs.Rules.Views.{start_of, start_vector}
use Rattle.cany_model.specs.Runs.Run.{run}
use Rattle.cany_model.proofs.Promises.KeptVectors.{vector_at}
use Rattle.cany_model.proofs.Rules.Site.CycleFacts.{in_start}
use Rattle.cany_model.proofs.Rules.Site.KnowledgeSteps.{members_by}
use Rattle.cany_model.proofs.Timed.Detector.SilentNode.{asked_members, no_installed, start_says}
use Rattle.cany_model.proofs.Timed.Detector.VectorsAgreeOn.{Says}
use Rattle.cany_model.proofs.Timed.Views.SameView.{end_place}
use Rattle.cany_model.proofs.Timed.Views.StartViews.{start_no_end}
use Rattle.cany_model.proofs.Timed.Views.VectorLastEffect.{IsCycle, brings}
use Rattle.cany_model.proofs.Timed.Views.VectorSlots.{cycle_of_formulas}
use Rattle.cany_model.proofs.Timed.Views.VectorTurns.{turn_ends, turn_exchanges, turn_starts}
use Rattle.cany_laws.specs.Logs.{IsIncarnation, followed_by}
use Rattle.cany_laws.specs.Views.{installed_as}
use Rattle.cany_laws.proofs.Joins.AdmissionTaken.{starts_say}
use Rattle.cany_laws.proofs.Joins.AdmissionVectors.{installs_say}
use Rattle.cany_laws.proofs.Members.EqualMembers.{ended_as, ended_installs, ended_none, first_read, first_read-length, first_read-more, members_more, next_read}
use Rattle.cany_laws.proofs.Silences.Lives.{Lived, lived}

-- ---- who comes into a view

module _ (scenario : ScenarioParts) (journal : List Step) (i q n : ℕ) (e : EndedIncarnation) (l : Lived scenario journal i e) where
  abbrev View : ℕ → Nodes
  View m = (knowledge_of (followed_by scenario e) i (first_read m (run scenario journal) i e)).members

  -- it installs a vector in a cycle that ends between the slots
  abbrev InstalledIn : ℕ → Type 0
  InstalledIn d = (c : ℕ) × (v : Nodes) × (n ≤ c * scenario.params.cycle + scenario.params.bound) × (c * scenario.params.cycle + scenario.params.bound < n + d)
      × (installed_as scenario (run scenario journal) i e c ≡ Some v)

  -- one that comes into the view between two slots comes by such a vector, and so one that leaves
  -- it
  pub view_changes : (b : Bool) → has (View n) q ≡ b → (d : ℕ) → n + d ≤ e.next → (has (View (n + d)) q ≡ b) ⊎ InstalledIn d
  view_changes b first zero short = let same : n ≡ n + 0 = omega arith in inl (subst (λ m. has (View m) q ≡ b) same first)
  view_changes b first (suc d) short = elim (view_changes b first d (omega (arith, short))) [
    | inr before ↦ inr (before.0, before.1, before.2, omega (arith, before.3), before.4)
    | inl still ↦ by_ended still (ended_as scenario (run scenario journal) (n + d) i e) refl
  ]
    where
      never : (v : Nodes) → None ≡ Some v → ⊥
      never v h = cc

      by_ended : has (View (n + d)) q ≡ b → (o : Option Nodes) → ended_as scenario (run scenario journal) (n + d) i e ≡ o
          → (has (View (n + suc d)) q ≡ b) ⊎ InstalledIn (suc d)
      by_ended still None is =
          let one : n + d + 1 ≡ n + suc d = omega arith in
          inl (subst (λ m. has (View m) q ≡ b) one
          (ap (λ m. has m q) (members_more scenario journal i (n + d) e l (omega (arith, short))) ∙ ap (λ o. has (members_by o (View (n + d))) q) is ∙ still))
      by_ended still (Some v) is = elim (cases_Bool (is_end scenario.params (n + d))) [
        | inr other ↦ absurd (never v (sym (ended_none scenario journal i (n + d) e l (omega (arith, short)) other) ∙ is))
        | inl end ↦
            let at = end_place scenario.params (n + d) end in
            let c : ℕ = cycle_of scenario.params (n + d) in
            inr (c, v, omega (arith, at.1), omega (arith, at.1), sym (ended_installs scenario journal i c (n + d) e l (omega (arith, short)) at.1) ∙ is)
      ]

-- ---- a member at the start of a cycle

abbrev HasVector : Option Nodes → Type 0
HasVector o = (v : Nodes) × (o ≡ Some v)

met_has : (p : Parameters) (old got : Option Nodes) → HasVector old → HasVector (met p old got)
unfolding met
met_has p old None h = h
met_has p old (Some w) h = (met_with p old w, refl)

starts_some : (p : Parameters) (i slot : ℕ) (e : NoticeKind) (st : Knowledge) → is_start p slot ≡ true → is_end p slot ≡ false → has st.members i ≡ true
    → HasVector (start_in p i slot e st)
starts_some p i slot e st start no_end own =
    let now : Knowledge = after_installing p i slot e st in
    let there : has now.members i ≡ true =
    ap (λ m. has m i) (ap (λ (k : Knowledge). k.members) (no_installed p i slot e st no_end) ∙ asked_members p i slot e st) ∙ own in
    (start_vector now, cond-true (is_start p slot) (start_of i now) None start ∙ cond-true (has now.members i) (Some (start_vector now)) None there)

module _ (scenario : ScenarioParts) (legal : IsLegalScenario scenario) (journal : List Step) (i k : ℕ) (e : EndedIncarnation) (some : 0 < k)
    (l : Lived scenario journal i e) (read : k * scenario.params.cycle + scenario.params.bound < e.next) where
  abbrev sc : ScenarioParts
  sc = followed_by scenario e

  c : IsCycle (followed_by scenario e).params k
  c = let h = cycle_of_formulas scenario.params legal.formulas k some in record { some = h.some; exchanged = h.exchanged; long = h.long }

  abbrev start : ℕ
  start = k * scenario.params.cycle

  abbrev K : ℕ → Knowledge
  K n = knowledge_of (followed_by scenario e) i (first_read n (run scenario journal) i e)

  more : (n : ℕ) → n < e.next
      → K (n + 1) ≡ knowledge_of (followed_by scenario e) i (next_read n (run scenario journal) i e ∷ first_read n (run scenario journal) i e)
  more n short = ap (knowledge_of (followed_by scenario e) i) (first_read-more scenario journal i n e l short)

  size : (n : ℕ) → n ≤ e.next → length (first_read n (run scenario journal) i e) ≡ n
  size n short = first_read-length scenario journal i n e l short

  has_vector : has (K start).members i ≡ true → (d : ℕ) → d < scenario.params.bound → HasVector (K (start + 1 + d)).vector
  has_vector own zero below =
      let past : List NoticeKind = first_read start (run scenario journal) i e in
      let notice : NoticeKind = next_read start (run scenario journal) i e in
      let at : length past ≡ start = size start (omega (arith, read)) in
      let long = c.long in
      let begins_here : is_start scenario.params (length past) ≡ true = in_start scenario.params k (length past) some (omega (arith, long)) at in
      let no_end : is_end scenario.params (length past) ≡ false = start_no_end scenario.params k (length past)
      (record { some = c.some; exchanged = c.exchanged; long = c.long }) at in
      let one : start + 1 ≡ start + 1 + 0 = omega arith in
      subst (λ n. HasVector (K n).vector) one
      (subst HasVector (sym (ap (λ (st : Knowledge). st.vector) (more start (omega (arith, read))) ∙ (turn_starts sc k i c notice past at).vector))
      (starts_some scenario.params i (length past) notice (K start) begins_here no_end own))
  has_vector own (suc d) below =
      let n : ℕ = start + 1 + d in
      let past : List NoticeKind = first_read n (run scenario journal) i e in
      let notice : NoticeKind = next_read n (run scenario journal) i e in
      let at : length past ≡ n = size n (omega (arith, read, below)) in
      let one : n + 1 ≡ start + 1 + suc d = omega arith in
      subst (λ m. HasVector (K m).vector) one
      (subst HasVector
      (sym (ap (λ (st : Knowledge). st.vector) (more n (omega (arith, read, below)))
      ∙ (turn_exchanges sc k i c notice past (omega (arith, at)) (omega (arith, at, below))).vector))
      (met_has scenario.params (vector_at sc i past) (brings scenario.params.format k notice) (has_vector own d (omega (arith, below)))))

  -- it installs a vector
  pub member_installs : has (knowledge_of (followed_by scenario e) i (first_read (k * scenario.params.cycle) (run scenario journal) i e)).members i ≡ true
      → (v : Nodes) × (installed_as scenario (run scenario journal) i e k ≡ Some v)
  unfolding ended_as
  member_installs own =
      let exchanged = c.exchanged in
      let n : ℕ = start + scenario.params.bound in
      let past : List NoticeKind = first_read n (run scenario journal) i e in
      let notice : NoticeKind = next_read n (run scenario journal) i e in
      let at : length past ≡ n = size n (omega (arith, read)) in
      let all : start + 1 + (scenario.params.bound - 1) ≡ n = omega (arith, exchanged) in
      let before : HasVector (K n).vector =
      subst (λ m. HasVector (K m).vector) all (has_vector own (scenario.params.bound - 1) (omega (arith, exchanged))) in
      subst HasVector (sym (turn_ends sc k i c notice past at).installs ∙ ended_installs scenario journal i k n e l read refl)
      (met_has scenario.params (vector_at sc i past) (brings scenario.params.format k notice) before)

-- ---- where nobody installs a vector

abbrev pub NobodyInstalls : ScenarioParts → RunState → ℕ → Type 0
NobodyInstalls scenario s c = (i : ℕ) (e : EndedIncarnation) → IsIncarnation scenario s i e → installed_as scenario s i e c ≡ None

module _ (scenario : ScenarioParts) (legal : IsLegalScenario scenario) (journal : List Step) (within : IsWithin scenario.params
    (run scenario journal).trace) (c : ℕ)
    (some : 0 < c) (nobody : NobodyInstalls scenario (run scenario journal) c) where
  abbrev T : ℕ
  T = scenario.params.cycle

  next : (c + 1) * T ≡ c * T + T
  next = grind arith

  long : scenario.params.bound < scenario.params.cycle
  long = omega (arith, legal.formulas.bound, legal.formulas.cycle)

  none_some : (o : Option Nodes) (v : Nodes) → o ≡ None → o ≡ Some v → ⊥
  none_some o v a b = absurd (cc)

  -- nobody stands in its own view when the next cycle starts
  no_member : (i : ℕ) (e : EndedIncarnation) → IsIncarnation scenario (run scenario journal) i e → (c + 1) * T < e.next
      → has (knowledge_of (followed_by scenario e) i (first_read ((c + 1) * T) (run scenario journal) i e)).members i ≡ false
  no_member i e is read =
      let l = lived scenario journal i e is in
      let all : c * T + T ≡ (c + 1) * T = sym next in
      let gone : (b : Bool) → has (knowledge_of (followed_by scenario e) i (first_read (c * T) (run scenario journal) i e)).members i ≡ b
      → has (knowledge_of (followed_by scenario e) i (first_read ((c + 1) * T) (run scenario journal) i e)).members i ≡ b =
      λ b was. elim (view_changes scenario journal i i (c * T) e l b was T (omega (arith, read, next))) [
        | inl still ↦ subst (λ m. has (knowledge_of (followed_by scenario e) i (first_read m (run scenario journal) i e)).members i ≡ b) all still
        | inr change ↦ absurd (elsewhere change.0 change.2 change.3 change.1 change.4)
      ] in
      elim (cases_Bool (has (knowledge_of (followed_by scenario e) i (first_read (c * T) (run scenario journal) i e)).members i)) [
        | inr out ↦ gone false out
        | inl there ↦
            let v = member_installs scenario legal journal i c e some l (omega (arith, read, next, long)) there in
            absurd (none_some (installed_as scenario (run scenario journal) i e c) v.0 (nobody i e is) v.1)
      ]
    where
      elsewhere : (d : ℕ) → c * T ≤ d * T + scenario.params.bound → d * T + scenario.params.bound < c * T + T → (v : Nodes)
          → installed_as scenario (run scenario journal) i e d ≡ Some v → ⊥
      elsewhere d from to v h = elim (cases_lt d c) [
        | inl less ↦
            let step : suc d * T ≤ c * T = mul-le-mul_right T less in
            let more : suc d * T ≡ d * T + T = grind arith in
            omega (arith, step, more, from, long)
        | inr not_less ↦ elim (cases_lt c d) [
          | inl above ↦ let step : (c + 1) * T ≤ d * T = mul-le-mul_right T (omega (arith, above)) in omega (arith, step, next, to)
          | inr not_above ↦
              let same : d ≡ c = omega (arith, not_less, not_above) in
              none_some (installed_as scenario (run scenario journal) i e d) v
              (ap (installed_as scenario (run scenario journal) i e) same ∙ nobody i e is) h
        ]
      ]

  starts_none : (r : ℕ) (b : Bool) (i : ℕ) (e : EndedIncarnation) → IsIncarnation scenario (run scenario journal) i e → (c + 1) * T < e.next
      → Says r b (vector_at (followed_by scenario e) i (first_read ((c + 1) * T + 1) (run scenario journal) i e))
  starts_none r b i e is read =
      let l = lived scenario journal i e is in
      let n : ℕ = (c + 1) * T in
      let past : List NoticeKind = first_read n (run scenario journal) i e in
      let notice : NoticeKind = next_read n (run scenario journal) i e in
      let at : length past ≡ n = first_read-length scenario journal i n e l (omega (arith, read)) in
      let cycle = cycle_of_formulas scenario.params legal.formulas (c + 1) (omega arith) in
      let no_end : is_end scenario.params (length past) ≡ false = start_no_end scenario.params (c + 1) (length past) cycle at in
      let starts = (turn_starts (followed_by scenario e) (c + 1) i
      (record { some = cycle.some; exchanged = cycle.exchanged; long = cycle.long }) notice past at).vector in
      subst (Says r b) (sym (ap (λ (past : List NoticeKind). vector_at (followed_by scenario e) i past)
      (first_read-more scenario journal i n e l read) ∙ starts))
      (start_says scenario.params i (length past) notice (knowledge_of (followed_by scenario e) i past) r b no_end (λ own.
      absurd (both_ways (has (knowledge_of (followed_by scenario e) i past).members i) (no_member i e is read) own)))

  pub nobody_next : NobodyInstalls scenario (run scenario journal) (c + 1)
  nobody_next i e is =
      let cycle = cycle_of_formulas scenario.params legal.formulas (c + 1) (omega arith) in
      let says : (b : Bool) → Says i b (installed_as scenario (run scenario journal) i e (c + 1)) =
      λ b. installs_say scenario legal.in_range.nodes.1 (few_nodes scenario.params legal.in_range) legal.members (c + 1) i b is.there cycle journal
      (starts_say scenario journal (c + 1) i b (starts_none i b)) i e is in
      by_vector (installed_as scenario (run scenario journal) i e (c + 1)) (says true) (says false)
    where
      by_vector : (o : Option Nodes) → Says i true o → Says i false o → o ≡ None
      by_vector None yes_says no_says = refl
      by_vector (Some v) yes_says no_says = absurd (both_ways (has v i) (no_says v refl) (yes_says v refl))
