-- What is asked of a world, by what it keeps.
use Rattle.std.proofs.Common.{◌≡◌, ◌&&◌, Bool, nat_le, List, [], length, sym, ap, ◌∙◌, subst}
use Rattle.std.specs.List.{list_all}
use Rattle.cany_base.specs.declared.slot_note.SlotNote.{SlotNote}
use Rattle.cany_base.specs.declared.step.Step.{Step}
use Rattle.cany_base.proofs.ParamsFacts.{few_nodes}
use Rattle.cany_base.specs.Scenario.{ScenarioParts, IsLegalScenario}
use Rattle.cany_model.specs.Runs.Run.{run, has_ended}
use Rattle.cany_model.specs.Bus.State.{RunState, opening, slots_run}
use Rattle.cany_model.specs.Promises.Detector.{KeepsMembers}
use Rattle.cany_model.specs.Promises.Hypothesis.{IsWithin}
use Rattle.cany_model.specs.Promises.Safe.{IsIntegral, IsSafe}
use Rattle.cany_model.proofs.Runs.Journals.{run_none}
use Rattle.cany_model.proofs.Promises.Integrity.{integral}
use Rattle.cany_model.proofs.Timed.Safety.{safe}
use Rattle.cany_model.proofs.Timed.Detector.DetectorLaws.{keeps_members}
use Rattle.can_bus.specs.Bus.{BusParts, Follows}
use Rattle.can_controller.specs.Controller.{ControllerState}
use Rattle.cany_world.specs.Incarnations.{IncarnationsParts}
use Rattle.cany_world.specs.Controllers.{has_read}
use Rattle.cany_world.specs.Kept.{IsBusOf, AreControllersOf, AreNodesOf, StandFor}
use Rattle.cany_world.specs.World.{WorldParts, state_of}
use Rattle.cany_world.proofs.AlikeFacts.{all_read_same}

-- ---- safety

pub world_integral : (w : WorldParts) → IsLegalScenario w.scenario → IsIntegral w.scenario (state_of w)
world_integral w legal = integral w.scenario w.journal (few_nodes w.scenario.params legal.in_range)

pub world_safe : (w : WorldParts) → IsLegalScenario w.scenario → IsWithin w.scenario.params (state_of w).trace → IsSafe w.scenario (state_of w)
world_safe w legal within = safe w.scenario legal w.journal within

pub world_keeps_members : (w : WorldParts) → IsLegalScenario w.scenario → w.scenario.restarts ≡ []
    → IsWithin w.scenario.params (state_of w).trace → KeepsMembers w.scenario (state_of w)
world_keeps_members w legal none within = keeps_members w.scenario legal none w.journal within

-- the trace of the bus is that of the run
pub within_run : (scenario : ScenarioParts) (s : RunState) (bus : BusParts) → IsBusOf scenario s bus → IsWithin bus.params bus.trace → IsWithin scenario.params s.trace
within_run scenario s bus of within =
    subst (λ (t : List SlotNote). IsWithin scenario.params t) of.trace (subst (λ p. IsWithin p bus.trace) of.params within)

-- ---- the end

pub ended_is : (scenario : ScenarioParts) (journal : List Step) (bus : BusParts) (controllers : List ControllerState) (nodes : List IncarnationsParts) (over : Bool)
    → StandFor scenario (run scenario journal) bus controllers nodes → nat_le scenario.params.slots (length bus.trace) ≡ over
    → (over && list_all has_read controllers) ≡ has_ended scenario (run scenario journal)
ended_is scenario journal bus controllers nodes over stands e =
    let s : RunState = run scenario journal in
    ap (λ b. b && list_all has_read controllers) (sym e ∙ ap (λ (t : List SlotNote). nat_le scenario.params.slots (length t)) stands.bus.trace)
    ∙ ap (λ b. nat_le scenario.params.slots (slots_run s) && b) (sym (all_read_same scenario journal controllers stands.controllers))

-- ---- a world before its first step, and after a step

pub opening_stands : (scenario : ScenarioParts) (bus : BusParts) (controllers : List ControllerState) (nodes : List IncarnationsParts) → bus.params ≡ scenario.params → bus.trace ≡ []
    → Follows scenario.rules bus → AreControllersOf scenario (opening scenario.params.nodes) controllers → AreNodesOf scenario (opening scenario.params.nodes) nodes
    → StandFor scenario (run scenario []) bus controllers nodes
opening_stands scenario bus controllers nodes params trace follows row kept =
    subst (λ (s : RunState). StandFor scenario s bus controllers nodes) (sym (run_none scenario (opening scenario.params.nodes)))
    (record { bus = record { params = params; trace = trace; follows = follows }; controllers = row; nodes = kept })
