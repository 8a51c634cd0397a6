use Rattle.std.proofs.Common.{◌≡◌, length, sym, ap, ◌∙◌, List}
use Rattle.std.proofs.lemmas.List.{length-reverse}
use Rattle.cany_base.specs.declared.slot_note.SlotNote.{SlotNote}
use Rattle.cany_base.specs.Scenario.{ScenarioParts}
use Rattle.cany_model.specs.Runs.Run.{run}
use Rattle.cany_world.proofs.slot.run_slot.Goals as goal

pub run_next_slot-requires : goal.run_next_slot-requires
run_next_slot-requires c =
    let scenario : ScenarioParts = c.args.scenario.now in
    let ran : length c.trace.result.now ≡ length (run scenario c.requires.journal).trace =
    ap (λ (t : List SlotNote). length t) c.trace.ensures ∙ length-reverse c.args.bus.now.trace ∙ ap (λ (t : List SlotNote). length t) c.requires.stands.bus.trace in
    record {
      asked = record { legal = c.requires.legal; rules = c.requires.rules; journal = c.requires.journal; stands = c.requires.stands };
      done = sym (c.slot_reply.ensures scenario c.requires.journal c.params.ensures.params ran c.requires.stands.controllers) ∙ c.in-Done.is;
    }

pub returns-in-Done-clause-done : goal.returns-in-Done-clause-done
returns-in-Done-clause-done c journal stands =
    let scenario : ScenarioParts = c.args.scenario.now in
    let ran : length c.trace.result.now ≡ length (run scenario journal).trace =
    ap (λ (t : List SlotNote). length t) c.trace.ensures ∙ length-reverse c.args.bus.now.trace ∙ ap (λ (t : List SlotNote). length t) stands.bus.trace in
    c.run_next_slot.ensures journal stands (sym (c.slot_reply.ensures scenario journal c.params.ensures.params ran stands.controllers) ∙ c.in-Done.is)
