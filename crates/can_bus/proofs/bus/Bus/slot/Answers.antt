use Rattle.std.proofs.Common.{ap, subst, sym, ◌∙◌}
use Rattle.cany_base.specs.declared.slot_note.SlotNote.{SlotNote}
use Rattle.cany_base.specs.Bounded.{Bounded}
use Rattle.cany_model.specs.Bus.Slot.{script}
use Rattle.can_bus.specs.Bus.{BusParts, Follows}
use Rattle.can_bus.specs.BusFields.{parts_of}
use Rattle.can_bus.specs.Controllers.{AreControllersFor, nodes_of}
use Rattle.can_bus.proofs.AfterFacts.{controllers_after_slot}
use Rattle.can_bus.proofs.KeptFacts.{slot_note, partial_room, ruled_on, follows_on}
use Rattle.can_bus.proofs.NoteFacts.{note_numbered}
use Rattle.can_bus.proofs.UnreadFacts.{slot_without_unread}
use Rattle.can_bus.proofs.bus.Bus.slot.Goals as goal

pub note-requires-clause-next : goal.note-requires-clause-next
note-requires-clause-next c =
    let was : Follows c.args.script.now (parts_of c.self.inside) = subst (Follows c.args.script.now) (sym c.self.view_is) c.requires.follows in
    let is = slot_note c.args.script.now c.self.inside c.len-slot.result (nodes_of c.args.controllers.now) c.run_slot-note.result c.self.invariant was c.len-slot.ensures.len c.run_slot-note.ensures.note in
    note_numbered (script c.args.script.now) (parts_of c.self.inside).trace (nodes_of c.args.controllers.now) c.run_slot-note.result is ∙ sym c.self.invariant.tally.slots

pub note-requires-clause-room : goal.note-requires-clause-room
note-requires-clause-room c partial =
    let was : Follows c.args.script.now (parts_of c.self.inside) = subst (Follows c.args.script.now) (sym c.self.view_is) c.requires.follows in
    let is = slot_note c.args.script.now c.self.inside c.len-slot.result (nodes_of c.args.controllers.now) c.run_slot-note.result c.self.invariant was c.len-slot.ensures.len c.run_slot-note.ensures.note in
    let ruled = ruled_on c.args.script.now c.self.inside (nodes_of c.args.controllers.now) c.run_slot-note.result was is in
    partial_room c.args.script.now c.self.inside c.self.invariant was
    (c.partial_slots_are_fewer_than_rules.ensures c.args.script.now (parts_of c.self.inside).trace c.run_slot-note.result ruled partial)

pub returns-clause-note : goal.returns-clause-note
returns-clause-note c = λ nodes stand.
    let was : Follows c.args.script.now (parts_of c.self.inside) = subst (Follows c.args.script.now) (sym c.self.view_is) c.requires.follows in
    let is = slot_note c.args.script.now c.self.inside c.len-slot.result (nodes_of c.args.controllers.now) c.run_slot-note.result c.self.invariant was c.len-slot.ensures.len c.run_slot-note.ensures.note in
    rw (← c.self.view_is) (is ∙ slot_without_unread (script c.args.script.now) (parts_of c.self.inside).trace c.args.controllers.now nodes stand)

pub returns-clause-follows : goal.returns-clause-follows
returns-clause-follows c =
    let was : Follows c.args.script.now (parts_of c.self.inside) = subst (Follows c.args.script.now) (sym c.self.view_is) c.requires.follows in
    let is = slot_note c.args.script.now c.self.inside c.len-slot.result (nodes_of c.args.controllers.now) c.run_slot-note.result c.self.invariant was c.len-slot.ensures.len c.run_slot-note.ensures.note in
    follows_on c.args.script.now c.self.inside
    (record c.self.inside { trace = c.push_copy.new.self; attempts = c.run_slot-note.new.attempts; tally = c.note.new.self })
    (nodes_of c.args.controllers.now) c.run_slot-note.result was is
    (ap (λ (b : Bounded SlotNote). b.items) c.push_copy.ensures)
    (c.run_slot-note.ensures.counts (parts_of c.self.inside).trace was.counts) c.note.ensures.rules

pub returns-clause-each_node : goal.returns-clause-each_node
returns-clause-each_node c =
    controllers_after_slot c.self.inside.params c.run_slot-note.result c.args.controllers.now c.run_slot-note.new.controllers c.run_slot-note.ensures.controllers
    (subst (λ (b : BusParts). AreControllersFor b.params c.args.controllers.now) (sym c.self.view_is) c.requires.each_node)
