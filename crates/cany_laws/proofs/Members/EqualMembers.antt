-- From the first vector that they have in common on, any two incarnations have one view.
use Rattle.std.proofs.Common.{◌≡◌, ℕ, zero, suc, ◌+◌, ◌-◌, ◌*◌, ◌<◌, ◌≤◌, inl, inr, false, List, [], ◌∷◌, length, drop, get_or, refl, ap, sym, ◌∙◌, subst, arith, length-drop}
use Rattle.std.specs.Prelude.{Option, Some, None}
use Rattle.std.proofs.lemmas.Bool.{cases_Bool}
use Rattle.std.proofs.lemmas.List.{drop_all, drop_more}
use Rattle.cany_base.specs.Cycles.{cycle_of, is_end}
use Rattle.cany_base.specs.declared.notice.NoticeKind.{NoticeKind}
use Rattle.cany_base.specs.declared.notice.NoticeKind.TheVariants.{Idle}
use Rattle.cany_base.specs.declared.step.Step.{Step}
use Rattle.cany_base.specs.Nodes.{Nodes}
use Rattle.cany_base.specs.Scenario.{IsLegalScenario, ScenarioParts}
use Rattle.cany_model.specs.Bus.State.{EndedIncarnation, RunState}
use Rattle.cany_model.specs.Promises.Hypothesis.{IsWithin}
use Rattle.cany_model.specs.Promises.OneView.{installed_of}
use Rattle.cany_model.specs.Rules.KnowledgeOf.{knowledge_of}
use Rattle.cany_model.specs.Runs.Run.{run}
use Rattle.cany_model.proofs.Rules.IncarnationFacts.{scenario_for-original}
use Rattle.cany_model.proofs.Rules.Site.KnowledgeSteps.{members_by}
use Rattle.cany_model.proofs.Timed.Common.KnowledgeAges.{ended_at, members_next}
use Rattle.cany_model.proofs.Timed.Views.OneVector.{installed_here}
use Rattle.cany_model.proofs.Timed.Views.SameView.{end_place}
use Rattle.cany_laws.specs.Logs.{IsIncarnation, followed_by, past_of}
use Rattle.cany_laws.specs.Membership.{HasOneMembership, HaveEqualMembers}
use Rattle.cany_laws.specs.Views.{installed_as}
use Rattle.cany_laws.proofs.Members.EachView.{each_installs_one, installed_drop, past_length}
use Rattle.cany_laws.proofs.Silences.Lives.{Lived, lived}
use Rattle.cany_laws.proofs.Since.{begins}

-- what an incarnation had read when it had read the first n slots
abbrev pub first_read : ℕ → RunState → ℕ → EndedIncarnation → List NoticeKind
first_read n s i e = drop (e.next - n) (past_of s i e)

pub first_read-length : (scenario : ScenarioParts) (journal : List Step) (i n : ℕ) (e : EndedIncarnation) → Lived scenario journal i e → n ≤ e.next
    → length (first_read n (run scenario journal) i e) ≡ n
first_read-length scenario journal i n e l short =
    omega (arith, length-drop (e.next - n) (past_of (run scenario journal) i e), past_length scenario journal i e l, short)

-- one slot more
unfoldable pub next_read : ℕ → RunState → ℕ → EndedIncarnation → NoticeKind
next_read n s i e = get_or (past_of s i e) (e.next - (n + 1)) Idle

pub first_read-more : (scenario : ScenarioParts) (journal : List Step) (i n : ℕ) (e : EndedIncarnation) → Lived scenario journal i e → n < e.next
    → first_read (n + 1) (run scenario journal) i e ≡ next_read n (run scenario journal) i e ∷ first_read n (run scenario journal) i e
unfolding next_read
first_read-more scenario journal i n e l below =
    let s : RunState = run scenario journal in
    let one : e.next - (n + 1) + 1 ≡ e.next - n = omega (arith, below) in
    drop_more (past_of s i e) (e.next - (n + 1)) Idle (omega (arith, past_length scenario journal i e l, below))
    ∙ ap (λ k. next_read n s i e ∷ drop k (past_of s i e)) one

-- before any slot
pub first_read-none : (scenario : ScenarioParts) (journal : List Step) (i : ℕ) (e : EndedIncarnation) → Lived scenario journal i e
    → first_read 0 (run scenario journal) i e ≡ []
first_read-none scenario journal i e l = drop_all (e.next - 0) (past_of (run scenario journal) i e) (omega (arith, past_length scenario journal i e l))

-- and its view is then that of the first members
pub members_first : (sc : ScenarioParts) (i : ℕ) → (knowledge_of sc i []).members ≡ sc.members
unfolding knowledge_of
members_first sc i = refl

-- what becomes its view in a slot
unfoldable pub ended_as : ScenarioParts → RunState → (n i : ℕ) → EndedIncarnation → Option Nodes
ended_as scenario s n i e = ended_at (followed_by scenario e) i (next_read n s i e) (first_read n s i e)

module _ (scenario : ScenarioParts) (journal : List Step) where
  pub members_more : (i n : ℕ) (e : EndedIncarnation) → Lived scenario journal i e → n < e.next
      → (knowledge_of (followed_by scenario e) i (first_read (n + 1) (run scenario journal) i e)).members
      ≡ members_by (ended_as scenario (run scenario journal) n i e) (knowledge_of (followed_by scenario e) i (first_read n (run scenario journal) i e)).members
  unfolding ended_as
  members_more i n e l below =
      ap (λ past. (knowledge_of (followed_by scenario e) i past).members) (first_read-more scenario journal i n e l below)
      ∙ members_next (followed_by scenario e) i (next_read n (run scenario journal) i e) (first_read n (run scenario journal) i e)

  -- at the end of a cycle it is what the incarnation installs
  pub ended_installs : (i k n : ℕ) (e : EndedIncarnation) → Lived scenario journal i e → n < e.next → n ≡ k * scenario.params.cycle + scenario.params.bound
      → ended_as scenario (run scenario journal) n i e ≡ installed_as scenario (run scenario journal) i e k
  unfolding ended_as
  ended_installs i k n e l below at =
      let sc : ScenarioParts = followed_by scenario e in
      let size : length (first_read n (run scenario journal) i e) ≡ n = first_read-length scenario journal i n e l (omega (arith, below)) in
      sym (installed_drop sc i k (e.next - (n + 1)) (past_of (run scenario journal) i e) (omega (arith, past_length scenario journal i e l, below, at))
      ∙ ap (installed_of sc i k) (first_read-more scenario journal i n e l below)
      ∙ installed_here sc i k (next_read n (run scenario journal) i e) (first_read n (run scenario journal) i e) (size ∙ at))

  -- and elsewhere it is none
  pub ended_none : (i n : ℕ) (e : EndedIncarnation) → Lived scenario journal i e → n < e.next → is_end scenario.params n ≡ false
      → ended_as scenario (run scenario journal) n i e ≡ None
  unfolding ended_as
  ended_none i n e l below none =
      let size : length (first_read n (run scenario journal) i e) ≡ n = first_read-length scenario journal i n e l (omega (arith, below)) in
      let here : is_end scenario.params (length (first_read n (run scenario journal) i e)) ≡ false = ap (is_end scenario.params) size ∙ none in
      rw here refl

module _ (scenario : ScenarioParts) (legal : IsLegalScenario scenario) (journal : List Step) (within : IsWithin scenario.params (run scenario journal).trace)
    (i j : ℕ) (e f : EndedIncarnation) (ie : IsIncarnation scenario (run scenario journal) i e) (jf : IsIncarnation scenario (run scenario journal) j f) where
  abbrev s : RunState
  s = run scenario journal

  le : Lived scenario journal i e
  le = lived scenario journal i e ie

  lf : Lived scenario journal j f
  lf = lived scenario journal j f jf

  abbrev Equal : ℕ → Type 0
  Equal n = (knowledge_of (followed_by scenario e) i (first_read n s i e)).members ≡ (knowledge_of (followed_by scenario f) j (first_read n s j f)).members

  -- a slot in which both install one vector, or none
  same_ended : (n : ℕ) → n < e.next → n < f.next
      → ((k : ℕ) → n ≡ k * scenario.params.cycle + scenario.params.bound → (e.incarnation.from ≤ k * scenario.params.cycle) × (f.incarnation.from ≤ k * scenario.params.cycle))
      → ended_as scenario s n i e ≡ ended_as scenario s n j f
  same_ended n be bf took = elim (cases_Bool (is_end scenario.params n)) [
    | inr none ↦ ended_none scenario journal i n e le be none ∙ sym (ended_none scenario journal j n f lf bf none)
    | inl end ↦
        let at = end_place scenario.params n end in
        let k : ℕ = cycle_of scenario.params n in
        let parts = took k at.1 in
        ended_installs scenario journal i k n e le be at.1
        ∙ (each_installs_one scenario legal journal within k).alike i j e f
        (record { is = ie; took_part = parts.0; read = omega (arith, be, at.1) }) (record { is = jf; took_part = parts.1; read = omega (arith, bf, at.1) })
        ∙ sym (ended_installs scenario journal j k n f lf bf at.1)
  ]

  equal_more : (n : ℕ) → n < e.next → n < f.next
      → ((k : ℕ) → n ≡ k * scenario.params.cycle + scenario.params.bound → (e.incarnation.from ≤ k * scenario.params.cycle) × (f.incarnation.from ≤ k * scenario.params.cycle))
      → Equal n → Equal (n + 1)
  equal_more n be bf took equal =
      members_more scenario journal i n e le be
      ∙ ap (λ v. members_by v (knowledge_of (followed_by scenario e) i (first_read n s i e)).members) (same_ended n be bf took)
      ∙ ap (members_by (ended_as scenario s n j f)) equal
      ∙ sym (members_more scenario journal j n f lf bf)

  -- from a slot on
  equal_from : (first more : ℕ) → first + more ≤ e.next → first + more ≤ f.next
      → ((n k : ℕ) → first ≤ n → n ≡ k * scenario.params.cycle + scenario.params.bound
      → (e.incarnation.from ≤ k * scenario.params.cycle) × (f.incarnation.from ≤ k * scenario.params.cycle))
      → Equal first → Equal (first + more)
  equal_from first zero be bf took equal = subst Equal (omega arith) equal
  equal_from first (suc more) be bf took equal =
      subst Equal (omega arith)
      (equal_more (first + more) (omega (arith, be)) (omega (arith, bf)) (λ k at. took (first + more) k (omega arith) at)
      (equal_from first more (omega (arith, be)) (omega (arith, bf)) took equal))

  -- that of the cycle in which one of them installs a vector
  pub equal_installed : (k : ℕ) → e.incarnation.from ≤ k * scenario.params.cycle → f.incarnation.from ≤ k * scenario.params.cycle → (v : Nodes)
      → installed_as scenario s i e k ≡ Some v → HaveEqualMembers scenario s (k * scenario.params.cycle + scenario.params.bound) i e j f
  equal_installed k fe ff v is t since be bf =
      let n : ℕ = k * scenario.params.cycle + scenario.params.bound in
      let ne : n < e.next = omega (arith, since, be) in
      let nf : n < f.next = omega (arith, since, bf) in
      let other : installed_as scenario s j f k ≡ Some v =
      sym ((each_installs_one scenario legal journal within k).alike i j e f (record { is = ie; took_part = fe; read = ne }) (record { is = jf; took_part = ff; read = nf })) ∙ is in
      let first : Equal (n + 1) =
      members_more scenario journal i n e le ne
      ∙ ap (λ w. members_by w (knowledge_of (followed_by scenario e) i (first_read n s i e)).members) (ended_installs scenario journal i k n e le ne refl ∙ is)
      ∙ sym (ap (λ w. members_by w (knowledge_of (followed_by scenario f) j (first_read n s j f)).members) (ended_installs scenario journal j k n f lf nf refl ∙ other))
      ∙ sym (members_more scenario journal j n f lf nf) in
      let more : (n + 1) + (t - n) ≡ t + 1 = omega (arith, since) in
      subst Equal more
      (equal_from (n + 1) (t - n) (omega (arith, since, be)) (omega (arith, since, bf))
      (λ m d from at. (omega (arith, from, at, fe), omega (arith, from, at, ff))) first)

  -- those of the opening
  pub equal_original : e.incarnation.number ≡ 0 → f.incarnation.number ≡ 0 → HaveEqualMembers scenario s 0 i e j f
  equal_original ze zf t since be bf =
      let me : (knowledge_of (followed_by scenario e) i (first_read 0 s i e)).members ≡ scenario.members =
      ap (λ past. (knowledge_of (followed_by scenario e) i past).members) (first_read-none scenario journal i e le) ∙ members_first (followed_by scenario e) i
      ∙ ap (λ (sc : ScenarioParts). sc.members) (scenario_for-original scenario e.incarnation ze) in
      let mf : (knowledge_of (followed_by scenario f) j (first_read 0 s j f)).members ≡ scenario.members =
      ap (λ past. (knowledge_of (followed_by scenario f) j past).members) (first_read-none scenario journal j f lf) ∙ members_first (followed_by scenario f) j
      ∙ ap (λ (sc : ScenarioParts). sc.members) (scenario_for-original scenario f.incarnation zf) in
      subst Equal (omega arith)
      (equal_from 0 (t + 1) (omega (arith, be)) (omega (arith, bf))
      (λ m d from at. (omega (arith, (begins scenario journal i e le).first ze), omega (arith, (begins scenario journal j f lf).first zf))) (me ∙ sym mf))

pub one_membership : (scenario : ScenarioParts) → IsLegalScenario scenario → (journal : List Step) → IsWithin scenario.params (run scenario journal).trace
    → HasOneMembership scenario (run scenario journal)
one_membership scenario legal journal within = record {
  installed = λ i j e f ie jf. equal_installed scenario legal journal within i j e f ie jf;
  original = λ i j e f ie jf. equal_original scenario legal journal within i j e f ie jf;
}
