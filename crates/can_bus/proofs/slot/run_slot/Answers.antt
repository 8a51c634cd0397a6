use Rattle.std.proofs.Common.{◌≡◌, ◌<◌, length, ap, sym, ◌∙◌, arith}
use Rattle.std.proofs.lemmas.Option.{slice_get_within}
use Rattle.cany_base.specs.declared.slot_note.SlotNote.{SlotNote}
use Rattle.cany_model.specs.Bus.Slot.{transmission, script, stopping, winner}
use Rattle.can_bus.specs.Contest.{seen_by, stopped_by}
use Rattle.can_bus.specs.Each.{each}
use Rattle.can_bus.specs.Controllers.{nodes_of}
use Rattle.can_bus.proofs.AfterFacts.{are_after}
use Rattle.can_bus.proofs.NodeFacts.{seen_and_stopped}
use Rattle.can_bus.proofs.NoteFacts.{noted, stops_are, frame_noted, slot_noted}
use Rattle.can_bus.proofs.slot.run_slot.Goals as goal

-- the note but for its stops, and its stops
bare_is : (c : goal.After-seen_is_node_after) → c.transmission-note.result ≡ transmission c.args.slot (nodes_of c.args.controllers.now) c.ruling-verdict.result.0 (winner (nodes_of c.args.controllers.now))
bare_is c = c.transmission-note.ensures (nodes_of c.args.controllers.now) c.contest-before.ensures.contest c.contest-before.ensures.running

stops_is : (c : goal.After-seen_is_node_after) → c.stopping-stops.result ≡ stopping c.ruling-verdict.result.1 (nodes_of c.args.controllers.now) c.transmission-note.result
stops_is c =
    stops_are c.ruling-verdict.result.1 c.args.controllers.now c.transmission-note.result c.see_all-after.new.controllers c.contest-before.result.0 c.see_all-after.result c.stopping-stops.result
    c.see_all-after.ensures.controllers c.contest-before.ensures.running c.see_all-after.ensures.running c.stopping-stops.ensures

pub returns-clause-note : goal.returns-clause-note
returns-clause-note c trace counts at short =
    noted (script c.args.script.now) trace (nodes_of c.args.controllers.now) c.args.slot (record { verdict = c.ruling-verdict.result.0; stop = c.ruling-verdict.result.1 })
    c.transmission-note.result c.stopping-stops.result at
    (c.ruling-verdict.ensures.ruling trace counts at short ∙ ap (script c.args.script.now trace) c.contest-before.ensures.contest.frame) (bare_is c) (stops_is c)

pub returns-clause-counts : goal.returns-clause-counts
returns-clause-counts c trace counts =
    let nodes = nodes_of c.args.controllers.now in
    c.ruling-verdict.ensures.counts trace (record c.transmission-note.result { stops = c.stopping-stops.result }) counts
    (ap (λ (n : SlotNote). n.frame) (bare_is c) ∙ frame_noted c.args.slot nodes c.ruling-verdict.result.0 (winner nodes) ∙ sym c.contest-before.ensures.contest.frame)

pub returns-clause-controllers : goal.returns-clause-controllers
returns-clause-controllers c =
    let nodes = nodes_of c.args.controllers.now in
    let at : c.transmission-note.result.slot ≡ c.args.slot = ap (λ (n : SlotNote). n.slot) (bare_is c) ∙ slot_noted c.args.slot nodes c.ruling-verdict.result.0 (winner nodes) in
    are_after c.seen_is_node_after.ensures c.transmission-note.result c.ruling-verdict.result.1 c.stopping-stops.result c.args.controllers.now c.stop_all.new.controllers
    (λ i x there. let within : i < length c.args.controllers.now = slice_get_within c.args.controllers.now i x there in omega (arith, c.requires.few))
    (stops_is c)
    (c.stop_all.ensures
    ∙ ap (each (stopped_by c.args.slot c.stopping-stops.result) 0) c.see_all-after.ensures.controllers
    ∙ ap (λ k. each (stopped_by k c.stopping-stops.result) 0 (each (seen_by c.transmission-note.result) 0 c.args.controllers.now)) (sym at)
    ∙ seen_and_stopped c.transmission-note.result c.stopping-stops.result c.args.controllers.now)
