use Rattle.std.proofs.Common.{◌≡◌, length, sym, ap, subst, ◌∙◌, List, refl}
use Rattle.std.proofs.lemmas.List.{length-reverse}
use Rattle.cany_base.specs.declared.slot_note.SlotNote.{SlotNote}
use Rattle.cany_base.specs.Params.{Parameters}
use Rattle.cany_base.specs.Scenario.{ScenarioParts}
use Rattle.cany_model.specs.Runs.Run.{run, slot_reply}
use Rattle.can_bus.specs.Controllers.{AreControllersFor, NoneLags}
use Rattle.cany_world.proofs.SlotFacts.{can_restart, may_slot, none_lags, controllers_for, slot_stands_after}
use Rattle.cany_world.proofs.slot.run_next_slot.Goals as goal

pub slot-requires-clause-each_node : goal.slot-requires-clause-each_node
slot-requires-clause-each_node c =
    let asked = c.requires.asked in
    subst (λ (p : Parameters). AreControllersFor p c.args.controllers.now) (sym asked.stands.bus.params)
    (controllers_for c.args.scenario.now (run c.args.scenario.now asked.journal) c.args.controllers.now asked.stands.controllers)

pub slot-requires-clause-reading : goal.slot-requires-clause-reading
slot-requires-clause-reading c =
    let scenario : ScenarioParts = c.args.scenario.now in
    let asked = c.requires.asked in
    subst (λ (p : Parameters). NoneLags p.lag c.args.controllers.now) (sym asked.stands.bus.params)
    (none_lags scenario (run scenario asked.journal) c.args.controllers.now
    (may_slot scenario asked.journal (slot_reply scenario (run scenario asked.journal)) refl c.requires.done) asked.stands.controllers)

pub restart_all-requires : goal.restart_all-requires
restart_all-requires c =
    let scenario : ScenarioParts = c.args.scenario.now in
    let asked = c.requires.asked in
    let ran : length c.trace.result.now ≡ length (run scenario asked.journal).trace =
    ap (λ (t : List SlotNote). length t) c.trace.ensures ∙ length-reverse c.args.bus.now.trace ∙ ap (λ (t : List SlotNote). length t) asked.stands.bus.trace in
    can_restart scenario asked.journal c.args.script.now c.args.bus.now c.slot.new.self c.args.controllers.now c.slot.new.controllers c.args.nodes.now c.slot.result
    (record {
      same = asked.rules;
      note_is = c.slot.ensures.note;
      trace = c.slot.ensures.trace;
      params = c.slot.ensures.params;
      follows = c.slot.ensures.follows;
      row = c.slot.ensures.controllers;
    })
    asked.stands c.restarts.result.now (length c.trace.result.now) asked.legal c.restarts.ensures ran
    (may_slot scenario asked.journal (slot_reply scenario (run scenario asked.journal)) refl c.requires.done)

pub returns : goal.returns
returns c journal stands done =
    let scenario : ScenarioParts = c.args.scenario.now in
    let ran : length c.trace.result.now ≡ length (run scenario journal).trace =
    ap (λ (t : List SlotNote). length t) c.trace.ensures ∙ length-reverse c.args.bus.now.trace ∙ ap (λ (t : List SlotNote). length t) stands.bus.trace in
    slot_stands_after scenario journal c.args.script.now c.args.bus.now c.slot.new.self c.args.controllers.now c.slot.new.controllers c.args.nodes.now c.slot.result
    (record {
      same = c.requires.asked.rules;
      note_is = c.slot.ensures.note;
      trace = c.slot.ensures.trace;
      params = c.slot.ensures.params;
      follows = c.slot.ensures.follows;
      row = c.slot.ensures.controllers;
    })
    stands c.restarts.result.now (length c.trace.result.now) c.restart_all.new.controllers c.restart_all.new.nodes c.restarts.ensures ran
    (may_slot scenario journal (slot_reply scenario (run scenario journal)) refl done)
    c.restart_all.ensures
