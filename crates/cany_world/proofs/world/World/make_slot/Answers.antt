use Rattle.std.proofs.Common.{◌≡◌, ◌∷◌, ◌++◌, [], List, refl, ap, sym, ◌∙◌}
use Rattle.cany_base.specs.declared.step.Step.{Step}
use Rattle.cany_base.specs.declared.step.Step.TheVariants.{Slot}
use Rattle.cany_base.specs.Scenario.{ScenarioParts}
use Rattle.cany_model.specs.declared.reply.StepReply.TheVariants.{Done}
use Rattle.cany_model.specs.Runs.Run.{is_done, reply, run}
use Rattle.cany_model.proofs.Runs.Journals.{legal_push}
use Rattle.cany_world.specs.World.{WorldParts, state_of}
use Rattle.cany_world.proofs.StepFacts.{done_slot, read_stands, slot_made, stays_run, step_room}
use Rattle.cany_world.proofs.PlaceFacts.{written}
use Rattle.cany_world.proofs.world.World.make_slot.Goals as goal

pub run_next_slot-requires : goal.run_next_slot-requires
run_next_slot-requires c =
    let scenario : ScenarioParts = c.self.inside.scenario in
    let journal : List Step = c.self.inside.journal.items in
    record {
      asked = record {
        legal = c.self.invariant.legal;
        rules = c.self.invariant.script;
        journal = journal;
        stands = read_stands scenario (run scenario journal) c.self.inside.bus _ _ _ _ c.self.invariant.stands c.as_mut_slice.ensures.value c.as_mut_slice-2.ensures.value;
      };
      done = done_slot scenario (run scenario journal) (ap (λ (w : WorldParts). reply w.scenario (state_of w) Slot) c.self.view_is ∙ c.requires);
    }

pub push_copy-requires : goal.push_copy-requires
push_copy-requires c =
    let may : reply c.self.inside.scenario (run c.self.inside.scenario c.self.inside.journal.items) Slot ≡ Done =
    ap (λ (w : WorldParts). reply w.scenario (state_of w) Slot) c.self.view_is ∙ c.requires in
    step_room c.self.inside.scenario c.self.inside.journal.items Slot Done c.self.inside.journal.room c.self.invariant.steps refl (sym may) c.self.invariant.room

pub invariant_of-self : goal.invariant_of-self
invariant_of-self c =
    let scenario : ScenarioParts = c.self.inside.scenario in
    let journal : List Step = c.self.inside.journal.items in
    let may : reply scenario (run scenario journal) Slot ≡ Done = ap (λ (w : WorldParts). reply w.scenario (state_of w) Slot) c.self.view_is ∙ c.requires in
    let before = read_stands scenario (run scenario journal) c.self.inside.bus _ _ _ _ c.self.invariant.stands c.as_mut_slice.ensures.value c.as_mut_slice-2.ensures.value in
    stays_run c.self.inside _ (journal ++ Slot ∷ []) c.run_next_slot.new.controllers c.run_next_slot.new.nodes c.self.invariant refl refl refl refl c.push_copy.ensures
    (legal_push scenario journal Slot c.self.invariant.steps (ap is_done may))
    (written c.run_next_slot.new.controllers _ c.self.inside.controllers.len (c.run_next_slot.auto.controllers ∙ c.as_mut_slice.ensures.len))
    (written c.run_next_slot.new.nodes _ c.self.inside.nodes.len (c.run_next_slot.auto.nodes ∙ c.as_mut_slice-2.ensures.len))
    (slot_made scenario journal c.run_next_slot.new.bus c.run_next_slot.new.controllers c.run_next_slot.new.nodes may
    (c.run_next_slot.ensures journal before (done_slot scenario (run scenario journal) may)))
