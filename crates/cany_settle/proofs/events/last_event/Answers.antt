use Rattle.std.proofs.Common.{◌∙◌, ap}
use Rattle.cany_model.specs.Runs.Run.{run}
use Rattle.cany_settle.specs.LastEvent.{greater, is_event, last_ask, last_slot}
use Rattle.cany_settle.proofs.LastSlotFacts.{last_slot-reverse}
use Rattle.cany_settle.proofs.events.last_event.Goals as goal

pub returns : goal.returns
returns c =
    let w = c.args.world.now in
    c.later.ensures ∙ ap (λ n. greater n c.last_slot.result) (c.last_ask.ensures ∙ ap last_ask c.scenario.ensures)
    ∙ ap (greater (last_ask w.scenario))
    (c.last_slot.ensures ∙ ap (last_slot is_event) c.trace.ensures.oldest_first ∙ last_slot-reverse is_event (run w.scenario w.journal).trace)
