-- A node whose JOIN counts is in the vector of the cycle that starts next, or was in that of the
-- cycle before.
use Rattle.std.proofs.Common.{◌≡◌, ℕ, zero, suc, ◌+◌, ◌-◌, ◌*◌, ◌<◌, ◌≤◌, ◌⊎◌, inl, inr, true, false, Bool, List, [], ◌∷◌, ◌++◌, length, drop, Option, Some, None, refl, ap, sym, ◌∙◌, subst, arith}
use Rattle.std.specs.List.{AllByRecursion}
use Rattle.std.proofs.lemmas.Bool.{cases_Bool, cases_eq, cases_lt}
use Rattle.cany_base.proofs.ParamsFacts.{few_nodes}
use Rattle.cany_base.specs.declared.step.Step.{Step}
use Rattle.cany_base.specs.Nodes.{Nodes, has}
use Rattle.cany_base.specs.Scenario.{IsLegalScenario, ScenarioParts}
use Rattle.cany_model.specs.Bus.History.{history}
use Rattle.cany_model.specs.Bus.State.{EndedIncarnation, Incarnation, RunState, node_at, reads, runs}
use Rattle.cany_model.specs.Promises.Hypothesis.{IsWithin}
use Rattle.cany_model.specs.Rules.Turn.{scenario_at, scenario_for}
use Rattle.cany_model.specs.Runs.Incarnations.{incarnations}
use Rattle.cany_model.specs.Runs.Run.{run}
use Rattle.cany_model.proofs.Among.{Among, Among-from_Contains, Contains-from_Among, Each-of}
use Rattle.cany_model.proofs.Bus.States.{runs_within}
use Rattle.cany_model.proofs.Promises.KeptVectors.{vector_at}
use Rattle.cany_model.proofs.Runs.Runs.{history-length, orderly}
use Rattle.cany_model.proofs.Timed.Detector.VectorsAgreeOn.{Says, none_says}
use Rattle.cany_model.proofs.Timed.Views.VectorLastEffect.{IsCycle}
use Rattle.cany_model.proofs.Timed.Views.VectorSlots.{cycle_of_formulas}
use Rattle.cany_laws.specs.Admission.{InstalledItBefore, IsOutsideAtEach, IsAdmittedByEach, JoinIsCarried}
use Rattle.cany_laws.specs.Logs.{IsIncarnation, followed_by}
use Rattle.cany_laws.specs.Views.{installed_as}
use Rattle.cany_laws.proofs.Joins.AdmissionJoined.{joined, some}
use Rattle.cany_laws.proofs.Joins.AdmissionLives.{read_by_front, was_present}
use Rattle.cany_laws.proofs.Joins.AdmissionVectors.{StartSaid, installs_say}
use Rattle.cany_laws.proofs.Members.EachView.{each_installs_one, view_read}
use Rattle.cany_laws.proofs.Members.EqualMembers.{first_read}

-- ---- a fact of each vector with which a cycle starts, as the incarnations of the whole run have it

pub starts_say : (scenario : ScenarioParts) (journal : List Step) (k r : ℕ) (b : Bool)
    → ((i : ℕ) (e : EndedIncarnation) → IsIncarnation scenario (run scenario journal) i e → k * scenario.params.cycle < e.next
    → Says r b (vector_at (followed_by scenario e) i (first_read (k * scenario.params.cycle + 1) (run scenario journal) i e)))
    → (front rest : List Step) → journal ≡ front ++ rest → (i : ℕ) → runs (node_at (run scenario front).nodes i) ≡ true
    → StartSaid (scenario_at scenario (run scenario front) i) k r b i (history i (run scenario front))
starts_say scenario journal k r b says front rest whole i running after =
    let s : RunState = run scenario front in
    let n : ℕ = k * scenario.params.cycle + 1 in
    let there : i < scenario.params.nodes = omega (arith, runs_within s.nodes i running, (orderly scenario front).count) in
    let w = was_present scenario journal front rest whole i there in
    let size : length (history i s) ≡ reads s i = history-length i s in
    let same : first_read n (run scenario journal) i w.life ≡ drop (length (history i s) - n) (history i s) =
    read_by_front scenario journal front rest whole i n w (omega (arith, after, size)) ∙ ap (λ m. drop (m - n) (history i s)) (sym size) in
    subst (λ past. Says r b (vector_at (scenario_at scenario s i) i past)) same
    (subst (λ (inc : Incarnation). Says r b (vector_at (scenario_for scenario inc) i (first_read n (run scenario journal) i w.life))) w.present
    (says i w.life w.is (omega (arith, after, size, w.read))))

-- ---- a search

module _ (Q : ℕ → EndedIncarnation → Option Nodes) (r : ℕ) where
  abbrev HasIt : ℕ → EndedIncarnation → Type 0
  HasIt j f = (w : Nodes) × (Q j f ≡ Some w) × (has w r ≡ true)

  seek : (j : ℕ) (fs : List EndedIncarnation) → ((f : EndedIncarnation) × Among (λ x. x ≡ f) fs × HasIt j f) ⊎ AllByRecursion (λ f. Says r false (Q j f)) fs
  seek j [] = inr tt
  seek j (f ∷ fs) = elim (seek j fs) [
    | inl found ↦ inl (found.0, inr found.1, found.2)
    | inr none ↦ by_vector (Q j f) refl none
  ]
    where
      by_vector : (o : Option Nodes) → Q j f ≡ o → AllByRecursion (λ x. Says r false (Q j x)) fs
          → ((x : EndedIncarnation) × Among (λ y. y ≡ x) (f ∷ fs) × HasIt j x) ⊎ AllByRecursion (λ x. Says r false (Q j x)) (f ∷ fs)
      by_vector None is none = inr (subst (Says r false) (sym is) (none_says r false), none)
      by_vector (Some w) is none = elim (cases_Bool (has w r)) [
        | inl there ↦ inl (f, inl refl, (w, is, there))
        | inr out ↦ inr ((λ v same. let one : Some w ≡ Some v = sym is ∙ same in let w_is_v : w ≡ v = cc in ap (λ x. has x r) (sym w_is_v) ∙ out), none)
      ]

  seek_all : (s : RunState) (n : ℕ) → ((j : ℕ) × (j < n) × ((f : EndedIncarnation) × Among (λ x. x ≡ f) (incarnations s j) × HasIt j f))
      ⊎ ((j : ℕ) → j < n → AllByRecursion (λ f. Says r false (Q j f)) (incarnations s j))
  seek_all s zero = inr (λ j below. absurd (omega (arith, below)))
  seek_all s (suc n) = elim (seek_all s n) [
    | inl found ↦ inl (found.0, omega (arith, found.1), found.2)
    | inr none ↦ elim (seek n (incarnations s n)) [
      | inl here ↦ inl (n, omega arith, here)
      | inr none_here ↦ inr (λ j below. elim (cases_eq j n) [
        | inl same ↦ subst (λ m. AllByRecursion (λ f. Says r false (Q m f)) (incarnations s m)) (sym same) none_here
        | inr other ↦ none j (omega (arith, below, other))
      ])
    ]
  ]

-- ---- every run

module _ (scenario : ScenarioParts) (legal : IsLegalScenario scenario) (journal : List Step) (within : IsWithin scenario.params (run scenario journal).trace)
    (r k slot : ℕ) (below : r < scenario.params.nodes) (carried : JoinIsCarried scenario (run scenario journal) r k slot)
    (outside : IsOutsideAtEach scenario (run scenario journal) r k slot) where
  abbrev s : RunState
  s = run scenario journal

  abbrev T : ℕ
  T = scenario.params.cycle

  -- where none of them had it before
  abbrev Former : Type 0
  Former = (i : ℕ) (e : EndedIncarnation) → IsIncarnation scenario (run scenario journal) i e → e.incarnation.from ≤ (k - 1) * scenario.params.cycle
      → k * scenario.params.cycle < e.next → 1 < k → Says r false (installed_as scenario (run scenario journal) i e (k - 1))

  taken : Former → (i : ℕ) (e : EndedIncarnation) → IsIncarnation scenario s i e → Says r true (installed_as scenario s i e k)
  taken former i e is =
      let more = some scenario legal journal within r k slot below carried outside former in
      let cycle : IsCycle scenario.params k = cycle_of_formulas scenario.params legal.formulas k more in
      installs_say scenario legal.in_range.nodes.1 (few_nodes scenario.params legal.in_range) legal.members k r true below cycle journal
      (starts_say scenario journal k r true (λ j f jf read. joined scenario legal journal within r k slot below carried outside former j f jf read)) i e is

  since : (i : ℕ) (e : EndedIncarnation) → IsIncarnation scenario s i e → e.incarnation.from ≤ (k - 1) * T → (v : Nodes)
      → installed_as scenario s i e k ≡ Some v
      → (has v r ≡ true) ⊎ InstalledItBefore scenario s r k i e
  since i e is part v installs = elim (cases_lt 1 k) [
    | inr first ↦ inl (taken (λ j f jf fpart read later. absurd (omega (arith, later, first))) i e is v installs)
    | inl later ↦ by_former later (installed_as scenario s i e (k - 1)) refl
  ]
    where
      former_is : (o : Option Nodes) → installed_as scenario s i e (k - 1) ≡ o → Says r false o → 1 < k → Former
      former_is o is_o says later j f jf fpart read _ =
          let here = view_read scenario legal journal within i e is k v installs in
          let one : k - 1 + 1 ≡ k = omega (arith, later) in
          let next : (k - 1 + 1) * T ≡ (k - 1) * T + T = grind arith in
          let same : (k - 1 + 1) * T ≡ k * T = ap (λ n. n * T) one in
          let long : scenario.params.bound < T = omega (arith, legal.formulas.bound, legal.formulas.cycle) in
          let alike = (each_installs_one scenario legal journal within (k - 1)).alike i j e f
          (record { is = is; took_part = part; read = omega (arith, here.read, next, same) })
          (record { is = jf; took_part = fpart; read = omega (arith, read, next, same, long) }) in
          subst (Says r false) (sym is_o ∙ alike) says

      by_former : 1 < k → (o : Option Nodes) → installed_as scenario s i e (k - 1) ≡ o → (has v r ≡ true) ⊎ InstalledItBefore scenario s r k i e
      by_former later None q = inl (taken (former_is None q (none_says r false) later) i e is v installs)
      by_former later (Some w) q = elim (cases_Bool (has w r)) [
        | inl there ↦ inr (later, (w, q, there))
        | inr out ↦ inl (taken (former_is (Some w) q
            (λ x same. let w_is_x : w ≡ x = cc in ap (λ y. has y r) (sym w_is_x) ∙ out) later) i e is v installs)
      ]

  each : (i : ℕ) (e : EndedIncarnation) → IsIncarnation scenario s i e → (v : Nodes) → installed_as scenario s i e k ≡ Some v
      → (has v r ≡ true) ⊎ ((j : ℕ) × (f : EndedIncarnation) × IsIncarnation scenario s j f × InstalledItBefore scenario s r k j f)
  each i e is v installs = elim (cases_lt 1 k) [
    | inr first ↦ inl (taken (λ j f jf fpart read later. absurd (omega (arith, later, first))) i e is v installs)
    | inl later ↦ elim (seek_all (λ j f. installed_as scenario s j f (k - 1)) r s scenario.params.nodes) [
      | inl found ↦ inr (
        found.0,
        found.2.0,
        record { there = found.1; stands = Contains-from_Among (incarnations s found.0) found.2.0 found.2.1 },
        (later, found.2.2),
      )
      | inr none ↦ inl (taken (λ j f jf fpart read _.
          Each-of (λ x. Says r false (installed_as scenario s j x (k - 1))) f (incarnations s j) (none j jf.there)
          (Among-from_Contains (incarnations s j) f jf.stands)) i e is v installs)
    ]
  ]

  pub admitted_by_each : IsAdmittedByEach scenario s r k
  admitted_by_each = record { since = since; each = each }
