use Rattle.std.proofs.Common.{◌≡◌, ◌∷◌, ◌++◌, [], List, refl, ap, sym, ◌∙◌}
use Rattle.cany_base.specs.declared.step.Step.{Step}
use Rattle.cany_base.specs.declared.step.Step.TheVariants.{Turn}
use Rattle.cany_base.specs.Bounded.{Bounded}
use Rattle.cany_base.specs.Scenario.{ScenarioParts}
use Rattle.cany_model.specs.Runs.Run.{after_step, is_done, reply, run}
use Rattle.cany_model.specs.Bus.State.{opening, reads}
use Rattle.cany_model.proofs.Runs.Journals.{legal_push, run_push}
use Rattle.cany_world.specs.Replies.{step_reply}
use Rattle.cany_world.specs.World.{WorldParts, state_of}
use Rattle.cany_world.proofs.JournalFacts.{turn_refused}
use Rattle.cany_world.proofs.PlaceFacts.{written}
use Rattle.cany_world.proofs.StepFacts.{read_stands, stays_run, step_room, step_stands, turn_answer, turn_stands}
use Rattle.cany_world.proofs.TurnFacts.{can_turn}
use Rattle.cany_world.proofs.world.World.make_turn.Goals as goal

pub take_turn-reply-requires-clause-turn : goal.take_turn-reply-requires-clause-turn
take_turn-reply-requires-clause-turn c v x at_node at =
    let scenario : ScenarioParts = c.self.inside.scenario in
    let journal : List Step = c.self.inside.journal.items in
    let stands = read_stands scenario (run scenario journal) c.self.inside.bus _ _ _ _ c.self.invariant.stands c.as_mut_slice-2.ensures.value c.as_mut_slice.ensures.value in
    can_turn scenario journal c.args.node v x c.self.inside.actions c.self.invariant.legal c.self.invariant.opening
    (stands.nodes.each c.args.node v at_node) (stands.controllers.each c.args.node x at) c.self.invariant.actions

pub push_copy-requires : goal.push_copy-requires
push_copy-requires c =
    step_room c.self.inside.scenario c.self.inside.journal.items (Turn c.args.node) (step_reply c.take_turn-reply.result) c.self.inside.journal.room c.self.invariant.steps
    (ap step_reply c.in-Turned.is)
    (turn_answer c.self.inside.scenario c.self.inside.journal.items c.self.inside.bus _ _ _ _ c.args.node (step_reply c.take_turn-reply.result) c.self.invariant.stands
    c.as_mut_slice-2.ensures.value c.as_mut_slice.ensures.value c.take_turn-reply.ensures.reply)
    c.self.invariant.room

pub invariant_of-self : goal.invariant_of-self
invariant_of-self c =
    let scenario : ScenarioParts = c.self.inside.scenario in
    let journal : List Step = c.self.inside.journal.items in
    let stands = read_stands scenario (run scenario journal) c.self.inside.bus _ _ _ _ c.self.invariant.stands c.as_mut_slice-2.ensures.value c.as_mut_slice.ensures.value in
    let is = turn_answer c.self.inside.scenario c.self.inside.journal.items c.self.inside.bus _ _ _ _ c.args.node (step_reply c.take_turn-reply.result) c.self.invariant.stands
    c.as_mut_slice-2.ensures.value c.as_mut_slice.ensures.value c.take_turn-reply.ensures.reply in
    stays_run c.self.inside _ (journal ++ Turn c.args.node ∷ []) c.take_turn-reply.new.controllers c.take_turn-reply.new.nodes c.self.invariant refl refl refl
    c.take_turn-reply.ensures.actions c.push_copy.ensures
    (legal_push scenario journal (Turn c.args.node) c.self.invariant.steps (ap is_done (sym is ∙ ap step_reply c.in-Turned.is)))
    (written c.take_turn-reply.new.controllers _ c.self.inside.controllers.len (c.take_turn-reply.auto.controllers ∙ c.as_mut_slice-2.ensures.len))
    (written c.take_turn-reply.new.nodes _ c.self.inside.nodes.len (c.take_turn-reply.auto.nodes ∙ c.as_mut_slice.ensures.len))
    (step_stands scenario journal (Turn c.args.node) (step_reply c.take_turn-reply.result) c.self.inside.bus c.take_turn-reply.new.controllers c.take_turn-reply.new.nodes
    (ap step_reply c.in-Turned.is) is
    (turn_stands scenario journal (Turn c.args.node) c.args.node (step_reply c.take_turn-reply.result) c.self.inside.bus c.as_mut_slice-2.result.now
    c.take_turn-reply.new.controllers c.as_mut_slice.result.now c.take_turn-reply.new.nodes refl stands
    (c.take_turn-reply.ensures.done scenario journal c.self.invariant.legal stands.controllers stands.nodes)))

pub invariant_of-self-in_default : goal.invariant_of-self-in_default
invariant_of-self-in_default c =
    let left : (c.take_turn-reply.new.controllers ≡ c.as_mut_slice-2.result.now) × (c.take_turn-reply.new.nodes ≡ c.as_mut_slice.result.now) =
    rw (turn_refused c.take_turn-reply.result c.in_default.not-Turned) at c.take_turn-reply.ensures.refused in
    stays_run c.self.inside _ c.self.inside.journal.items c.self.inside.controllers.items c.self.inside.nodes.items c.self.invariant refl refl refl
    c.take_turn-reply.ensures.actions refl c.self.invariant.steps
    (written c.take_turn-reply.new.controllers _ c.self.inside.controllers.len (c.take_turn-reply.auto.controllers ∙ c.as_mut_slice-2.ensures.len)
    ∙ left.0 ∙ c.as_mut_slice-2.ensures.value)
    (written c.take_turn-reply.new.nodes _ c.self.inside.nodes.len (c.take_turn-reply.auto.nodes ∙ c.as_mut_slice.ensures.len) ∙ left.1 ∙ c.as_mut_slice.ensures.value)
    c.self.invariant.stands

pub returns-in-Turned-clause-reply : goal.returns-in-Turned-clause-reply
returns-in-Turned-clause-reply c =
    sym (ap step_reply c.in-Turned.is)
    ∙ turn_answer c.self.inside.scenario c.self.inside.journal.items c.self.inside.bus _ _ _ _ c.args.node (step_reply c.take_turn-reply.result) c.self.invariant.stands
    c.as_mut_slice-2.ensures.value c.as_mut_slice.ensures.value c.take_turn-reply.ensures.reply
    ∙ ap (λ (w : WorldParts). reply w.scenario (state_of w) (Turn c.args.node)) c.self.view_is

pub returns-in_default-clause-reply : goal.returns-in_default-clause-reply
returns-in_default-clause-reply c =
    turn_answer c.self.inside.scenario c.self.inside.journal.items c.self.inside.bus _ _ _ _ c.args.node (step_reply c.take_turn-reply.result) c.self.invariant.stands
    c.as_mut_slice-2.ensures.value c.as_mut_slice.ensures.value c.take_turn-reply.ensures.reply
    ∙ ap (λ (w : WorldParts). reply w.scenario (state_of w) (Turn c.args.node)) c.self.view_is

pub returns-in-Turned-clause-slot : goal.returns-in-Turned-clause-slot
returns-in-Turned-clause-slot c slot is =
    let scenario : ScenarioParts = c.self.inside.scenario in
    let journal : List Step = c.self.inside.journal.items in
    let stands = read_stands scenario (run scenario journal) c.self.inside.bus _ _ _ _ c.self.invariant.stands c.as_mut_slice-2.ensures.value c.as_mut_slice.ensures.value in
    c.take_turn-reply.ensures.slot scenario journal stands.controllers slot (c.in-Turned.is ∙ is) ∙ ap (λ (w : WorldParts). reads (state_of w) c.args.node) c.self.view_is

pub returns-in_default-clause-slot : goal.returns-in_default-clause-slot
returns-in_default-clause-slot c slot is = absurd (c.in_default.not-Turned slot is)

pub returns-in-Turned-clause-run : goal.returns-in-Turned-clause-run
returns-in-Turned-clause-run c _ =
    ap (λ (b : Bounded Step). run c.self.inside.scenario b.items) c.push_copy.ensures
    ∙ run_push c.self.inside.scenario (opening c.self.inside.scenario.params.nodes) c.self.inside.journal.items (Turn c.args.node)
    ∙ ap (λ (w : WorldParts). after_step w.scenario (state_of w) (Turn c.args.node)) c.self.view_is
