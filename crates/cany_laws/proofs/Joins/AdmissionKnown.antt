-- What one incarnation that has a view knows of a node outside, each knows.
use Rattle.std.proofs.Common.{◌≡◌, ℕ, ◌+◌, ◌-◌, ◌*◌, ◌<◌, ◌≤◌, inl, inr, false, List, Some, ap, sym, ◌∙◌, subst, arith}
use Rattle.std.proofs.lemmas.Bool.{cases_lt}
use Rattle.cany_base.specs.declared.step.Step.{Step}
use Rattle.cany_base.specs.Nodes.{Nodes, has}
use Rattle.cany_base.specs.Scenario.{IsLegalScenario, ScenarioParts}
use Rattle.cany_model.specs.Bus.State.{EndedIncarnation, RunState}
use Rattle.cany_model.specs.Promises.Hypothesis.{IsWithin}
use Rattle.cany_model.specs.Rules.KnowledgeOf.{knowledge_of}
use Rattle.cany_model.specs.Runs.Run.{run}
use Rattle.cany_laws.specs.Admission.{IsAdmittedByEach, JoinIsCarried, KnowsItOutside}
use Rattle.cany_laws.specs.Logs.{IsIncarnation, followed_by}
use Rattle.cany_laws.specs.Membership.{members_as}
use Rattle.cany_laws.specs.Views.{installed_as}
use Rattle.cany_laws.proofs.Joins.AdmissionJoined.{has_view}
use Rattle.cany_laws.proofs.Joins.AdmissionTaken.{admitted_by_each}
use Rattle.cany_laws.proofs.Members.EachView.{view_read}
use Rattle.cany_laws.proofs.Members.EqualMembers.{equal_installed, equal_original, first_read}
use Rattle.cany_laws.proofs.Silences.Lives.{Lived, lived}
use Rattle.cany_laws.proofs.Since.{begins}

module _ (scenario : ScenarioParts) (legal : IsLegalScenario scenario) (journal : List Step) (within : IsWithin scenario.params (run scenario journal).trace)
    (r slot j : ℕ) (f : EndedIncarnation) (some : 0 < slot) (knows : KnowsItOutside scenario (run scenario journal) r slot j f)
    (i : ℕ) (e : EndedIncarnation) (is : IsIncarnation scenario (run scenario journal) i e) (read : slot ≤ e.next) where
  abbrev s : RunState
  s = run scenario journal

  abbrev T : ℕ
  T = scenario.params.cycle

  l : Lived scenario journal i e
  l = lived scenario journal i e is

  fl : Lived scenario journal j f
  fl = lived scenario journal j f knows.is

  abbrev Outside : Type 0
  Outside = has (members_as scenario (run scenario journal) (slot - 1) i e) r ≡ false

  from_same : members_as scenario s (slot - 1) j f ≡ members_as scenario s (slot - 1) i e → Outside
  from_same same = ap (λ m. has m r) (sym same) ∙ knows.outside

  -- by a vector that the one that knows has installed
  by_known : (d : ℕ) (v : Nodes) → d * T + scenario.params.bound < slot → installed_as scenario s j f d ≡ Some v → e.incarnation.from ≤ d * T → Outside
  by_known d v ended installs part =
      from_same (equal_installed scenario legal journal within j i f e knows.is is d
      (view_read scenario legal journal within j f knows.is d v installs).took_part part v
      installs (slot - 1) (omega (arith, ended)) (omega (arith, some, knows.read)) (omega (arith, some, read)))

  -- by one that this incarnation has installed
  by_own : (d : ℕ) (v : Nodes) → d * T + scenario.params.bound < slot → installed_as scenario s i e d ≡ Some v → f.incarnation.from ≤ d * T → Outside
  by_own d v ended installs part =
      from_same (sym (equal_installed scenario legal journal within i j e f is knows.is d
      (view_read scenario legal journal within i e is d v installs).took_part part v
      installs (slot - 1) (omega (arith, ended)) (omega (arith, some, read)) (omega (arith, some, knows.read))))

  -- where this incarnation is a later one
  by_view : 0 < e.incarnation.number → ((d : ℕ) → e.incarnation.from ≤ d * T → f.incarnation.from ≤ d * T) → Outside
  by_view later earlier = elim (has_view scenario journal i e l later r slot read) [
    | inl none ↦
        let one : slot ≡ slot - 1 + 1 = omega (arith, some) in
        subst (λ n. has (knowledge_of (followed_by scenario e) i (first_read n s i e)).members r ≡ false) one none
    | inr had ↦
        by_own had.0 had.1 had.2 had.3 (earlier had.0 (view_read scenario legal journal within i e is had.0 had.1 had.3).took_part)
  ]

  pub is_outside : has (members_as scenario (run scenario journal) (slot - 1) i e) r ≡ false
  is_outside = elim (cases_lt 0 e.incarnation.number) [
    | inr first ↦
        let zero_number : e.incarnation.number ≡ 0 = omega (arith, first) in
        let at_once : e.incarnation.from ≡ 0 = (begins scenario journal i e l).first zero_number in
        elim knows.view [
          | inl opening ↦
              from_same (equal_original scenario legal journal within j i f e knows.is is opening zero_number (slot - 1) (omega arith)
              (omega (arith, some, knows.read)) (omega (arith, some, read)))
          | inr had ↦ by_known had.0 had.1 had.2 had.3 (omega (arith, at_once))
        ]
    | inl later ↦ elim knows.view [
      | inl opening ↦
          let at_once : f.incarnation.from ≡ 0 = (begins scenario journal j f fl).first opening in
          by_view later (λ d part. omega (arith, at_once))
      | inr had ↦ elim (cases_lt (had.0 * T) e.incarnation.from) [
        | inr part ↦ by_known had.0 had.1 had.2 had.3 part
        | inl after ↦
            let took = (view_read scenario legal journal within j f knows.is had.0 had.1 had.3).took_part in
            by_view later (λ d part. omega (arith, part, after, took))
      ]
    ]
  ]

pub known_taken_in : (scenario : ScenarioParts) → IsLegalScenario scenario → (journal : List Step) → IsWithin scenario.params (run scenario journal).trace
    → (r k slot j : ℕ) (f : EndedIncarnation) → r < scenario.params.nodes → JoinIsCarried scenario (run scenario journal) r k slot
    → KnowsItOutside scenario (run scenario journal) r slot j f → IsAdmittedByEach scenario (run scenario journal) r k
known_taken_in scenario legal journal within r k slot j f below carried knows =
    admitted_by_each scenario legal journal within r k slot below carried (λ i e is part read.
    is_outside scenario legal journal within r slot j f (omega (arith, carried.after)) knows i e is (omega (arith, carried.by_start, read)))
