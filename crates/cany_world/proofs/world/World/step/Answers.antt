use Rattle.std.proofs.Common.{◌≡◌, ◌∷◌, ◌++◌, [], List, refl, ap, sym, ◌∙◌}
use Rattle.cany_base.specs.declared.step.Step.{Step}
use Rattle.cany_base.specs.Bounded.{Bounded}
use Rattle.cany_base.specs.Scenario.{ScenarioParts}
use Rattle.cany_model.specs.Runs.Run.{after_step, is_done, run}
use Rattle.cany_model.specs.Bus.State.{RunState, opening}
use Rattle.cany_model.proofs.Runs.Journals.{run_push, legal_push}
use Rattle.cany_world.specs.World.{WorldParts, state_of}
use Rattle.cany_world.proofs.JournalFacts.{refused}
use Rattle.cany_world.proofs.StepFacts.{read_stands, same_stands, stays_run, step_room, step_stands}
use Rattle.cany_world.proofs.PlaceFacts.{written}
use Rattle.cany_world.proofs.world.World.step.Goals as goal

pub push_copy-requires : goal.push_copy-requires
push_copy-requires c =
    let scenario : ScenarioParts = c.self.inside.scenario in
    let journal : List Step = c.self.inside.journal.items in
    step_room scenario journal c.args.step c.make-reply.result c.self.inside.journal.room c.self.invariant.steps c.in-Done.is
    (c.make-reply.ensures.reply journal
    (read_stands scenario (run scenario journal) c.self.inside.bus _ _ _ _ c.self.invariant.stands c.as_mut_slice.ensures.value c.as_mut_slice-2.ensures.value))
    c.self.invariant.room

pub invariant_of-self : goal.invariant_of-self
invariant_of-self c =
    let scenario : ScenarioParts = c.self.inside.scenario in
    let journal : List Step = c.self.inside.journal.items in
    let before = read_stands scenario (run scenario journal) c.self.inside.bus _ _ _ _ c.self.invariant.stands c.as_mut_slice.ensures.value c.as_mut_slice-2.ensures.value in
    let answer = c.make-reply.ensures.reply journal before in
    stays_run c.self.inside _ (journal ++ c.args.step ∷ []) c.make-reply.new.controllers c.make-reply.new.nodes c.self.invariant refl refl refl
    c.make-reply.ensures.actions c.push_copy.ensures
    (legal_push scenario journal c.args.step c.self.invariant.steps (ap is_done (sym answer ∙ c.in-Done.is)))
    (written c.make-reply.new.controllers _ c.self.inside.controllers.len (c.make-reply.auto.controllers ∙ c.as_mut_slice.ensures.len))
    (written c.make-reply.new.nodes _ c.self.inside.nodes.len (c.make-reply.auto.nodes ∙ c.as_mut_slice-2.ensures.len))
    (step_stands scenario journal c.args.step c.make-reply.result c.make-reply.new.bus c.make-reply.new.controllers c.make-reply.new.nodes c.in-Done.is answer
    (c.make-reply.ensures.done journal before))

pub invariant_of-self-in_default : goal.invariant_of-self-in_default
invariant_of-self-in_default c =
    let scenario : ScenarioParts = c.self.inside.scenario in
    let s : RunState = run scenario c.self.inside.journal.items in
    let left : (c.make-reply.new.bus ≡ c.self.inside.bus) × (c.make-reply.new.controllers ≡ c.as_mut_slice.result.now) × (c.make-reply.new.nodes ≡ c.as_mut_slice-2.result.now) =
    rw (refused c.make-reply.result c.in_default.not-Done) at c.make-reply.ensures.refused in
    stays_run c.self.inside _ c.self.inside.journal.items c.make-reply.new.controllers c.make-reply.new.nodes c.self.invariant refl refl refl
    c.make-reply.ensures.actions refl c.self.invariant.steps
    (written c.make-reply.new.controllers _ c.self.inside.controllers.len (c.make-reply.auto.controllers ∙ c.as_mut_slice.ensures.len))
    (written c.make-reply.new.nodes _ c.self.inside.nodes.len (c.make-reply.auto.nodes ∙ c.as_mut_slice-2.ensures.len))
    (same_stands scenario s s c.self.inside.bus c.make-reply.new.bus _ c.make-reply.new.controllers _ c.make-reply.new.nodes refl left.0
    (left.1 ∙ c.as_mut_slice.ensures.value) (left.2 ∙ c.as_mut_slice-2.ensures.value) c.self.invariant.stands)

pub returns-in-Done-clause-run : goal.returns-in-Done-clause-run
returns-in-Done-clause-run c _ =
    ap (λ (b : Bounded Step). run c.self.inside.scenario b.items) c.push_copy.ensures
    ∙ run_push c.self.inside.scenario (opening c.self.inside.scenario.params.nodes) c.self.inside.journal.items c.args.step
    ∙ ap (λ (w : WorldParts). after_step w.scenario (state_of w) c.args.step) c.self.view_is

pub returns-in-Done-clause-new : goal.returns-in-Done-clause-new
returns-in-Done-clause-new c =
    ap (λ (b : Bounded Step). record { scenario = c.self.inside.scenario; journal = b.items }) c.push_copy.ensures
    ∙ ap (λ (w : WorldParts). record w { journal = w.journal ++ c.args.step ∷ [] }) c.self.view_is
