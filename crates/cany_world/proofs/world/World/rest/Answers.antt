use Rattle.std.proofs.Common.{◌≡◌, ◌+◌, ◌≤◌, ◌++◌, List, length, refl, ap, subst, sym, ◌∙◌, arith}
use Rattle.cany_base.specs.declared.step.Step.{Step}
use Rattle.cany_base.specs.Bounded.{Bounded}
use Rattle.cany_base.specs.Nodes.{Nodes}
use Rattle.cany_base.specs.Scenario.{ScenarioParts}
use Rattle.cany_model.specs.Runs.RoundRobin.{rounds}
use Rattle.cany_model.specs.Runs.Run.{run}
use Rattle.cany_model.specs.Bus.State.{slots_run}
use Rattle.cany_model.proofs.Runs.Rounds.{rounds_none}
use Rattle.can_controller.specs.Controller.{ControllerState}
use Rattle.cany_world.specs.Incarnations.{IncarnationsParts}
use Rattle.cany_world.specs.Kept.{StandFor}
use Rattle.cany_world.specs.Resting.{CanAllPass, CanRest, rounds_of}
use Rattle.cany_world.specs.World.{WorldParts, state_of}
use Rattle.cany_world.proofs.PlaceFacts.{written}
use Rattle.cany_world.proofs.Idle.RestSteps.{can_rest, ready_for, steps_are, steps_room, then_legal, then_ran}
use Rattle.cany_world.proofs.StepFacts.{read_stands, stays_run}
use Rattle.cany_world.proofs.world.World.rest.Goals as goal

pub push_rounds-requires-clause-room : goal.push_rounds-requires-clause-room
push_rounds-requires-clause-room c =
    subst (λ (row : List ControllerState). length c.self.inside.journal.items + length (rounds_of c.next_stretch-slots.result.slots row) ≤ c.self.inside.journal.room)
    (sym c.as_slice-controllers.ensures.value)
    (steps_room c.self.inside.scenario c.self.inside.journal.items _ _ c.self.inside.bus _ _
    (ready_for c.self.inside _ c.self.view_is c.self.invariant _ _ _ _ c.args.most c.next_stretch-slots.result.slots c.next_stretch-slots.result.due
    c.as_slice-controllers.ensures.value c.as_slice.ensures.value c.trace.ensures c.requires c.next_stretch-slots.ensures.few c.next_stretch-slots.ensures.passes
    c.restarts.ensures c.next_stretch-slots.ensures.free c.if-slots-gt0.true) c.self.inside.journal.room c.self.invariant.room)

pub rest-requires : goal.rest-requires
rest-requires c =
    let slots = c.next_stretch-slots.result.slots in
    let due : Nodes = c.next_stretch-slots.result.due in
    subst (λ (kept : List IncarnationsParts). CanRest slots due c.self.inside.bus c.as_mut_slice.result.now kept c.self.inside.actions)
    (sym c.as_mut_slice-then-slots-gt0.ensures.value)
    (subst (λ (row : List ControllerState). CanRest slots due c.self.inside.bus row c.self.inside.nodes.items c.self.inside.actions) (sym c.as_mut_slice.ensures.value)
    (can_rest c.self.inside.scenario c.self.inside.journal.items slots due c.self.inside.bus _ _
    (ready_for c.self.inside _ c.self.view_is c.self.invariant _ _ _ _ c.args.most c.next_stretch-slots.result.slots c.next_stretch-slots.result.due
    c.as_slice-controllers.ensures.value c.as_slice.ensures.value c.trace.ensures c.requires c.next_stretch-slots.ensures.few c.next_stretch-slots.ensures.passes
    c.restarts.ensures c.next_stretch-slots.ensures.free c.if-slots-gt0.true) c.self.invariant.opening c.self.inside.actions c.self.invariant.actions))

pub invariant_of-self : goal.invariant_of-self
invariant_of-self c =
    let scenario : ScenarioParts = c.self.inside.scenario in
    let journal : List Step = c.self.inside.journal.items in
    let slots = c.next_stretch-slots.result.slots in
    let due : Nodes = c.next_stretch-slots.result.due in
    let ready = ready_for c.self.inside _ c.self.view_is c.self.invariant _ _ _ _ c.args.most c.next_stretch-slots.result.slots c.next_stretch-slots.result.due
    c.as_slice-controllers.ensures.value c.as_slice.ensures.value c.trace.ensures c.requires c.next_stretch-slots.ensures.few c.next_stretch-slots.ensures.passes
    c.restarts.ensures c.next_stretch-slots.ensures.free c.if-slots-gt0.true in
    let before =
    read_stands scenario (run scenario journal) c.self.inside.bus _ _ _ _ c.self.invariant.stands c.as_mut_slice.ensures.value c.as_mut_slice-then-slots-gt0.ensures.value in
    let passes : CanAllPass (slots_run (run scenario journal)) slots due c.as_mut_slice.result.now c.as_mut_slice-then-slots-gt0.result.now =
    subst (λ (kept : List IncarnationsParts). CanAllPass (slots_run (run scenario journal)) slots due c.as_mut_slice.result.now kept) (sym c.as_mut_slice-then-slots-gt0.ensures.value)
    (subst (λ (row : List ControllerState). CanAllPass (slots_run (run scenario journal)) slots due row c.self.inside.nodes.items) (sym c.as_mut_slice.ensures.value) ready.passes) in
    stays_run c.self.inside _ (journal ++ rounds_of slots c.self.inside.controllers.items) c.rest.new.controllers c.rest.new.nodes c.self.invariant refl refl refl
    c.rest.ensures.actions
    (c.push_rounds.ensures
    ∙ ap (λ (row : List ControllerState). record { items = journal ++ rounds_of slots row; room = c.self.inside.journal.room }) c.as_slice-controllers.ensures.value)
    (then_legal scenario journal slots due c.self.inside.bus _ _ ready)
    (written c.rest.new.controllers _ c.self.inside.controllers.len (c.rest.auto.controllers ∙ c.as_mut_slice.ensures.len))
    (written c.rest.new.nodes _ c.self.inside.nodes.len (c.rest.auto.nodes ∙ c.as_mut_slice-then-slots-gt0.ensures.len))
    (subst (λ (steps : List Step). StandFor scenario (run scenario (journal ++ steps)) c.rest.new.bus c.rest.new.controllers c.rest.new.nodes)
    (sym (steps_are scenario journal slots due c.self.inside.bus _ _ ready))
    (c.rest.ensures.stands scenario journal ready.legal before passes ready.idle))

pub returns-then-slots-gt0-clause-rounds : goal.returns-then-slots-gt0-clause-rounds
returns-then-slots-gt0-clause-rounds c =
    let scenario : ScenarioParts = c.self.inside.scenario in
    let journal : List Step = c.self.inside.journal.items in
    let slots = c.next_stretch-slots.result.slots in
    let ready = ready_for c.self.inside _ c.self.view_is c.self.invariant _ _ _ _ c.args.most c.next_stretch-slots.result.slots c.next_stretch-slots.result.due
    c.as_slice-controllers.ensures.value c.as_slice.ensures.value c.trace.ensures c.requires c.next_stretch-slots.ensures.few c.next_stretch-slots.ensures.passes
    c.restarts.ensures c.next_stretch-slots.ensures.free c.if-slots-gt0.true in
    let items : c.push_rounds.new.journal.items ≡ journal ++ rounds scenario slots (run scenario journal) =
    ap (λ (b : Bounded Step). b.items) c.push_rounds.ensures
    ∙ ap (λ (row : List ControllerState). journal ++ rounds_of slots row) c.as_slice-controllers.ensures.value
    ∙ ap (λ (steps : List Step). journal ++ steps) (steps_are scenario journal slots _ c.self.inside.bus _ _ ready) in
    subst (λ (w : WorldParts). record { scenario = scenario; journal = c.push_rounds.new.journal.items } ≡ record w { journal = w.journal ++ rounds w.scenario slots (state_of w) })
    c.self.view_is (λ k. record { scenario = scenario; journal = items k })

pub returns-then-slots-gt0-clause-ran : goal.returns-then-slots-gt0-clause-ran
returns-then-slots-gt0-clause-ran c =
    let slots = c.next_stretch-slots.result.slots in
    subst (λ (w : WorldParts). slots_run (run c.self.inside.scenario c.push_rounds.new.journal.items) ≡ slots_run (state_of w) + slots) c.self.view_is
    (ap (λ (b : Bounded Step). slots_run (run c.self.inside.scenario b.items)) c.push_rounds.ensures
    ∙ ap (λ (row : List ControllerState). slots_run (run c.self.inside.scenario (c.self.inside.journal.items ++ rounds_of slots row))) c.as_slice-controllers.ensures.value
    ∙ then_ran c.self.inside.scenario c.self.inside.journal.items slots _ c.self.inside.bus _ _
    (ready_for c.self.inside _ c.self.view_is c.self.invariant _ _ _ _ c.args.most slots c.next_stretch-slots.result.due
    c.as_slice-controllers.ensures.value c.as_slice.ensures.value c.trace.ensures c.requires c.next_stretch-slots.ensures.few c.next_stretch-slots.ensures.passes
    c.restarts.ensures c.next_stretch-slots.ensures.free c.if-slots-gt0.true))

pub returns-else-slots-gt0-clause-rounds : goal.returns-else-slots-gt0-clause-rounds
returns-else-slots-gt0-clause-rounds c =
    let w : WorldParts = c.args.self.now in
    let none : c.next_stretch-slots.result.slots ≡ 0 = omega (arith, c.if-slots-gt0.false) in
    λ k. record { scenario = w.scenario; journal = (sym (rounds_none w.scenario w.journal c.next_stretch-slots.result.slots none)) k }

pub returns-else-slots-gt0-clause-ran : goal.returns-else-slots-gt0-clause-ran
returns-else-slots-gt0-clause-ran c = omega (arith, c.if-slots-gt0.false)
