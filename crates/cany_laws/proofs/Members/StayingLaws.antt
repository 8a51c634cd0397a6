-- A running node in its first incarnation that has asked for no leave, or of which no LEAVE was
-- carried, stays in the views once one incarnation had it in its view.
use Rattle.std.proofs.Common.{◌≡◌, ℕ, ◌==◌, false, List, [], ◌∷◌, ap, ◌∙◌}
use Rattle.std.specs.Prelude.{Contains}
use Rattle.std.specs.List.{AllByRecursion}
use Rattle.std.proofs.lemmas.Bool.{and_from, both_ways, eq-eqb}
use Rattle.cany_base.specs.declared.class.Class.TheVariants as class
use Rattle.cany_base.specs.declared.slot_note.SlotNote.{SlotNote}
use Rattle.cany_base.specs.declared.step.Step.{Step}
use Rattle.cany_base.specs.Scenario.{IsLegalScenario, ScenarioParts}
use Rattle.cany_model.specs.Bus.Frames.{same_class}
use Rattle.cany_model.specs.Bus.Slot.{carried}
use Rattle.cany_model.specs.Bus.State.{EndedIncarnation, node_at}
use Rattle.cany_model.specs.Promises.Detector.{AsksNoLeave}
use Rattle.cany_model.specs.Promises.Hypothesis.{IsWithin}
use Rattle.cany_model.specs.Promises.Settled.{IsCorrect}
use Rattle.cany_model.specs.Runs.Run.{run}
use Rattle.cany_model.proofs.Among.{Contains-cons, Contains-head}
use Rattle.cany_model.proofs.Bus.Carried.{is_carried}
use Rattle.cany_model.proofs.Bus.Identities.{same_class_self}
use Rattle.cany_model.proofs.Timed.Detector.Leaving.{NoLeaveIn}
use Rattle.cany_laws.specs.Alarms.{HadInView, NoLeaveWasCarried, StandsInEachVector, is_leave_of}
use Rattle.cany_laws.proofs.FalseAlarms.AlarmLaws.{never_stopped}
use Rattle.cany_laws.proofs.Members.StayingAsked.{none_carried}
use Rattle.cany_laws.proofs.Members.StayingVectors.{stands_in_each}

no_leave_in : (r : ℕ) (trace : List SlotNote) → ((note : SlotNote) → Contains trace note → carried (is_leave_of r) note ≡ false)
    → AllByRecursion (NoLeaveIn r) trace
no_leave_in r [] h = tt
no_leave_in r (note ∷ trace) h = (
  λ f frame leave own.
      both_ways (carried (is_leave_of r) note) (h note (Contains-head note trace))
      (is_carried (is_leave_of r) note f frame
      (and_from (same_class f.class class.Leave) (f.node == r) (ap (λ c. same_class c class.Leave) leave ∙ same_class_self class.Leave) (eq-eqb f.node r own))),
  no_leave_in r trace (λ n c. h n (Contains-cons note n trace c)),
)

pub stays_uncarried : (scenario : ScenarioParts) → IsLegalScenario scenario → (journal : List Step) → IsWithin scenario.params (run scenario journal).trace
    → (r : ℕ) → IsCorrect scenario (run scenario journal) r → (node_at (run scenario journal).nodes r).present.number ≡ 0
    → NoLeaveWasCarried (run scenario journal) r → (i t : ℕ) (e : EndedIncarnation) → HadInView scenario (run scenario journal) r t i e
    → StandsInEachVector scenario (run scenario journal) r t
stays_uncarried scenario legal journal within r correct first quiet i t e had =
    stands_in_each scenario legal journal within r correct.there
    (λ n stopped. never_stopped scenario journal r correct first stopped.which stopped.is stopped.slot stopped.stopped)
    (no_leave_in r (run scenario journal).trace quiet) i t e had.is had.read had.member

pub stays_unasked : (scenario : ScenarioParts) → IsLegalScenario scenario → (journal : List Step) → IsWithin scenario.params (run scenario journal).trace
    → (r : ℕ) → IsCorrect scenario (run scenario journal) r → (node_at (run scenario journal).nodes r).present.number ≡ 0
    → AsksNoLeave scenario (run scenario journal) r → (i t : ℕ) (e : EndedIncarnation) → HadInView scenario (run scenario journal) r t i e
    → StandsInEachVector scenario (run scenario journal) r t
stays_unasked scenario legal journal within r correct first asks =
    stays_uncarried scenario legal journal within r correct first (none_carried scenario journal r correct first asks)
