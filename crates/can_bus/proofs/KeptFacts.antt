-- What the bus keeps from slot to slot.
use Rattle.std.proofs.Common.{◌≡◌, ℕ, ◌<◌, ◌≤◌, ◌++◌, List, [], ◌∷◌, length, reverse, ap, sym, subst, ◌∙◌, arith}
use Rattle.std.specs.Prelude.{count_by}
use Rattle.std.proofs.lemmas.List.{length-reverse, reverse-append}
use Rattle.cany_base.specs.declared.rule.Rule.{Rule}
use Rattle.cany_base.specs.declared.slot_note.SlotNote.{SlotNote}
use Rattle.cany_base.specs.Limits.{most_slots}
use Rattle.cany_base.proofs.ParamsFacts.{few_slots}
use Rattle.cany_model.specs.Bus.Slot.{script, slot_note_of}
use Rattle.cany_model.specs.Bus.State.{NodeState}
use Rattle.can_fault.specs.Attempts.{AreCountsOf}
use Rattle.can_fault.specs.Rules.{IsRuledBy}
use Rattle.can_fault.specs.Tally.{is_partial_slot}
use Rattle.can_bus.specs.declared.bus.Bus.TheInside.{Inside}
use Rattle.can_bus.specs.Bus.{Follows}
use Rattle.can_bus.specs.BusFields.{parts_of, IsSound}
use Rattle.can_bus.proofs.NoteFacts.{note_ruled}

-- the note of a slot is that of the trace so far
pub slot_note : (rules : List Rule) (b : Inside) (slot : ℕ) (nodes : List NodeState) (note : SlotNote) → IsSound b → Follows rules (parts_of b) → slot ≡ length b.trace.items
    → ((trace : List SlotNote) → AreCountsOf rules trace b.attempts → slot ≡ length trace → slot ≤ most_slots → note ≡ slot_note_of (script rules) (record { trace = trace; nodes = nodes }))
    → note ≡ slot_note_of (script rules) (record { trace = (parts_of b).trace; nodes = nodes })
slot_note rules b slot nodes note sound was at noted =
    noted (parts_of b).trace was.counts (at ∙ sym (length-reverse b.trace.items)) (omega (arith, sound.in_room, few_slots b.params sound.in_range))

pub ruled_on : (rules : List Rule) (b : Inside) (nodes : List NodeState) (note : SlotNote) → Follows rules (parts_of b)
    → note ≡ slot_note_of (script rules) (record { trace = (parts_of b).trace; nodes = nodes }) → IsRuledBy rules (note ∷ (parts_of b).trace)
ruled_on rules b nodes note was is = (note_ruled (script rules) (parts_of b).trace nodes note is, was.ruled)

-- there is room for a Partial slot
pub partial_room : (rules : List Rule) (b : Inside) → IsSound b → Follows rules (parts_of b) → count_by is_partial_slot (parts_of b).trace < length rules
    → b.tally.partials < b.tally.rules
partial_room rules b sound was fewer =
    let noted : b.tally.partials ≡ count_by is_partial_slot (parts_of b).trace = sound.tally.partials in
    let room : length rules ≡ b.tally.rules = was.room in
    omega arith

-- the bus follows the rules after the slot
pub follows_on : (rules : List Rule) (b after : Inside) (nodes : List NodeState) (note : SlotNote) → Follows rules (parts_of b)
    → note ≡ slot_note_of (script rules) (record { trace = (parts_of b).trace; nodes = nodes })
    → after.trace.items ≡ b.trace.items ++ note ∷ [] → AreCountsOf rules (note ∷ (parts_of b).trace) after.attempts → after.tally.rules ≡ b.tally.rules
    → Follows rules (parts_of after)
follows_on rules b after nodes note was is longer counts room =
    let trace : (parts_of after).trace ≡ note ∷ (parts_of b).trace = ap reverse longer ∙ reverse-append b.trace.items (note ∷ []) in
    record {
      counts = subst (λ (t : List SlotNote). AreCountsOf rules t after.attempts) (sym trace) counts;
      ruled = subst (IsRuledBy rules) (sym trace) (ruled_on rules b nodes note was is);
      room = was.room ∙ sym room;
    }
