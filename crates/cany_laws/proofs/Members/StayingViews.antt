-- Incarnations that have a node in their view have one view; and the view of one keeps a node while
-- each vector that it installs has it.
use Rattle.std.proofs.Common.{◌≡◌, ℕ, zero, suc, ◌+◌, ◌*◌, ◌<◌, ◌≤◌, inl, inr, true, false, Option, Some, None, refl, ap, sym, ◌∙◌, subst, arith}
use Rattle.std.specs.Prelude.{List}
use Rattle.std.proofs.Math.Nat.{mul-le-mul_right}
use Rattle.std.proofs.lemmas.Bool.{cases_Bool, cases_lt}
use Rattle.cany_base.specs.Cycles.{cycle_of, is_end}
use Rattle.cany_base.specs.declared.step.Step.{Step}
use Rattle.cany_base.specs.Nodes.{Nodes, has}
use Rattle.cany_base.specs.Scenario.{IsLegalScenario, ScenarioParts}
use Rattle.cany_model.specs.Bus.State.{EndedIncarnation, RunState}
use Rattle.cany_model.specs.Promises.Hypothesis.{IsWithin}
use Rattle.cany_model.specs.Rules.Knowledge.{Knowledge}
use Rattle.cany_model.specs.Rules.KnowledgeOf.{knowledge_of}
use Rattle.cany_model.specs.Runs.Run.{run}
use Rattle.cany_model.proofs.Rules.IncarnationFacts.{scenario_for-original}
use Rattle.cany_model.proofs.Rules.Site.KnowledgeSteps.{members_by}
use Rattle.cany_model.proofs.Timed.Views.SameView.{end_place}
use Rattle.cany_laws.specs.Logs.{IsIncarnation, followed_by}
use Rattle.cany_laws.specs.Views.{installed_as}
use Rattle.cany_laws.proofs.FalseAlarms.AlarmLife.{HasReason, has_reason, known_at}
use Rattle.cany_laws.proofs.Members.EqualMembers.{ended_as, ended_installs, ended_none, first_read-none, members_more, one_membership}
use Rattle.cany_laws.proofs.Silences.Lives.{Lived, lived}
use Rattle.cany_laws.proofs.Since.{begins}

-- ---- one incarnation

module _ (scenario : ScenarioParts) (journal : List Step) (i : ℕ) (e : EndedIncarnation) (l : Lived scenario journal i e) where
  abbrev K : ℕ → Knowledge
  K n = known_at scenario journal i e l n

  -- where no cycle ends its view stays
  pub view_stays : (n d : ℕ) → n + d ≤ e.next → ((m : ℕ) → n ≤ m → m < n + d → is_end scenario.params m ≡ false) → (K (n + d)).members ≡ (K n).members
  view_stays n zero read none = let same : n + 0 ≡ n = omega arith in ap (λ m. (K m).members) same
  view_stays n (suc d) read none =
      let up : n + suc d ≡ (n + d) + 1 = omega arith in
      ap (λ m. (K m).members) up
      ∙ members_more scenario journal i (n + d) e l (omega (arith, read))
      ∙ ap (λ w. members_by w (K (n + d)).members) (ended_none scenario journal i (n + d) e l (omega (arith, read)) (none (n + d) (omega arith) (omega arith)))
      ∙ view_stays n d (omega (arith, read)) (λ m from to. none m from (omega (arith, to)))

-- ---- two incarnations

module _ (scenario : ScenarioParts) (legal : IsLegalScenario scenario) (journal : List Step)
    (within : IsWithin scenario.params (run scenario journal).trace) where
  abbrev s : RunState
  s = run scenario journal

  abbrev V : (i : ℕ) (e : EndedIncarnation) → IsIncarnation scenario (run scenario journal) i e → ℕ → Nodes
  V i e is n = (known_at scenario journal i e (lived scenario journal i e is) n).members

  module _ (i j : ℕ) (e f : EndedIncarnation) (ie : IsIncarnation scenario (run scenario journal) i e)
      (jf : IsIncarnation scenario (run scenario journal) j f) where
    -- that have installed a vector, or are of the opening
    same_group : (n : ℕ) → n ≤ e.next → n ≤ f.next → HasReason scenario (run scenario journal) i n e → HasReason scenario (run scenario journal) j n f
        → V i e ie n ≡ V j f jf n
    unfolding knowledge_of
    same_group zero re rf (inr h) why = absurd (omega (arith, h.before))
    same_group zero re rf why (inr h) = absurd (omega (arith, h.before))
    same_group zero re rf (inl a) (inl b) =
        ap (λ past. (knowledge_of (followed_by scenario e) i past).members) (first_read-none scenario journal i e (lived scenario journal i e ie))
        ∙ ap (λ (sc : ScenarioParts). sc.members) (scenario_for-original scenario e.incarnation a)
        ∙ sym (ap (λ past. (knowledge_of (followed_by scenario f) j past).members) (first_read-none scenario journal j f (lived scenario journal j f jf))
        ∙ ap (λ (sc : ScenarioParts). sc.members) (scenario_for-original scenario f.incarnation b))
    same_group (suc n) re rf (inl a) (inl b) =
        let up : n + 1 ≡ suc n = omega arith in
        subst (λ m. V i e ie m ≡ V j f jf m) up
        ((one_membership scenario legal journal within).original i j e f ie jf a b n (omega arith) (omega (arith, re)) (omega (arith, rf)))
    same_group (suc n) re rf (inl a) (inr h) =
        let up : n + 1 ≡ suc n = omega arith in
        let from = (begins scenario journal i e (lived scenario journal i e ie)).first a in
        subst (λ m. V i e ie m ≡ V j f jf m) up
        (sym ((one_membership scenario legal journal within).installed j i f e jf ie h.k h.from (omega (arith, from)) h.vector h.is n
        (omega (arith, h.before)) (omega (arith, rf)) (omega (arith, re))))
    same_group (suc n) re rf (inr h) (inl b) =
        let up : n + 1 ≡ suc n = omega arith in
        let from = (begins scenario journal j f (lived scenario journal j f jf)).first b in
        subst (λ m. V i e ie m ≡ V j f jf m) up
        ((one_membership scenario legal journal within).installed i j e f ie jf h.k h.from (omega (arith, from)) h.vector h.is n
        (omega (arith, h.before)) (omega (arith, re)) (omega (arith, rf)))
    same_group (suc n) re rf (inr g) (inr h) =
        let up : n + 1 ≡ suc n = omega arith in
        subst (λ m. V i e ie m ≡ V j f jf m) up (elim (cases_lt g.k h.k) [
          | inl less ↦
              let step : g.k * scenario.params.cycle ≤ h.k * scenario.params.cycle = mul-le-mul_right scenario.params.cycle (omega (arith, less)) in
              sym ((one_membership scenario legal journal within).installed j i f e jf ie h.k h.from (omega (arith, g.from, step)) h.vector h.is n
              (omega (arith, h.before)) (omega (arith, rf)) (omega (arith, re)))
          | inr more ↦
              let step : h.k * scenario.params.cycle ≤ g.k * scenario.params.cycle = mul-le-mul_right scenario.params.cycle more in
              (one_membership scenario legal journal within).installed i j e f ie jf g.k g.from (omega (arith, h.from, step)) g.vector g.is n
              (omega (arith, g.before)) (omega (arith, re)) (omega (arith, rf))
        ])

    -- that have a node in their view
    pub one_view : (q r n : ℕ) → n ≤ e.next → n ≤ f.next → has (V i e ie n) q ≡ true → has (V j f jf n) r ≡ true → V i e ie n ≡ V j f jf n
    one_view q r n re rf a b =
        same_group n re rf (has_reason scenario legal journal within i e ie q n re a) (has_reason scenario legal journal within j f jf r n rf b)

  -- ---- a node that one has in its view

  -- so has each other one that has any node in its view, as long as each vector that it installs
  -- has it
  pub keeps_member : (r i j : ℕ) (e f : EndedIncarnation) (ie : IsIncarnation scenario (run scenario journal) i e)
      (jf : IsIncarnation scenario (run scenario journal) j f)
      → (first : ℕ) → first ≤ e.next → has (V i e ie first) r ≡ true → (d : ℕ) → first + d ≤ f.next
      → ((c : ℕ) → 0 < c → first ≤ c * scenario.params.cycle + scenario.params.bound → c * scenario.params.cycle + scenario.params.bound < first + d
      → (v : Nodes) → installed_as scenario (run scenario journal) j f c ≡ Some v → has v r ≡ true)
      → (q : ℕ) → has (V j f jf (first + d)) q ≡ true → has (V j f jf (first + d)) r ≡ true
  keeps_member r i j e f ie jf first re member zero rf has_it q some =
      let same : first + 0 ≡ first = omega arith in
      let there : has (V j f jf first) q ≡ true = ap (λ m. has (V j f jf m) q) (sym same) ∙ some in
      ap (λ m. has (V j f jf m) r) same
      ∙ ap (λ v. has v r) (sym (one_view i j e f ie jf r q first re (omega (arith, rf)) member there)) ∙ member
  keeps_member r i j e f ie jf first re member (suc d) rf has_it q some =
      let n : ℕ = first + d in
      let up : n + 1 ≡ first + suc d = omega arith in
      let l : Lived scenario journal j f = lived scenario journal j f jf in
      let there : has (V j f jf (n + 1)) q ≡ true = ap (λ m. has (V j f jf m) q) up ∙ some in
      subst (λ m. has (V j f jf m) r ≡ true) up (by_end n (omega (arith, rf)) (omega arith) there
      (λ old. keeps_member r i j e f ie jf first re member d (omega (arith, rf)) (λ c pos from to. has_it c pos from (omega (arith, to))) q old)
      (λ c pos at. has_it c pos (omega (arith, at)) (omega (arith, at))))
    where
      by_vector : (n : ℕ) → n < f.next → (o : Option Nodes) → ended_as scenario (run scenario journal) n j f ≡ o → has (V j f jf (n + 1)) q ≡ true
          → (has (V j f jf n) q ≡ true → has (V j f jf n) r ≡ true) → ((v : Nodes) → o ≡ Some v → has v r ≡ true) → has (V j f jf (n + 1)) r ≡ true
      by_vector n read None is there old new =
          let same : V j f jf (n + 1) ≡ V j f jf n =
          members_more scenario journal j n f (lived scenario journal j f jf) read ∙ ap (λ w. members_by w (V j f jf n)) is in
          ap (λ v. has v r) same ∙ old (ap (λ v. has v q) (sym same) ∙ there)
      by_vector n read (Some v) is there old new =
          let same : V j f jf (n + 1) ≡ v =
          members_more scenario journal j n f (lived scenario journal j f jf) read ∙ ap (λ w. members_by w (V j f jf n)) is in
          ap (λ x. has x r) same ∙ new v refl

      by_end : (n : ℕ) → n < f.next → n ≡ first + d → has (V j f jf (n + 1)) q ≡ true → (has (V j f jf n) q ≡ true → has (V j f jf n) r ≡ true)
          → ((c : ℕ) → 0 < c → n ≡ c * scenario.params.cycle + scenario.params.bound → (v : Nodes)
          → installed_as scenario (run scenario journal) j f c ≡ Some v → has v r ≡ true)
          → has (V j f jf (n + 1)) r ≡ true
      by_end n read at there old new =
          let l : Lived scenario journal j f = lived scenario journal j f jf in
          elim (cases_Bool (is_end scenario.params n)) [
            | inr none ↦ by_vector n read None (ended_none scenario journal j n f l read none) there old (λ v e. absurd (none_some v e))
            | inl end ↦
                let place = end_place scenario.params n end in
                let c : ℕ = cycle_of scenario.params n in
                by_vector n read (installed_as scenario (run scenario journal) j f c) (ended_installs scenario journal j c n f l read place.1) there old
                (new c place.0 place.1)
          ]
        where
          none_some : (v : Nodes) → None ≡ Some v → ⊥
          none_some v e = cc
