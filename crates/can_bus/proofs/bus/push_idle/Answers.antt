use Rattle.std.proofs.Common.{◌≡◌, ◌+◌, [], ◌∷◌, List, length, reverse, refl, ap, sym, ◌∙◌, arith}
use Rattle.std.proofs.lemmas.List.{length-reverse, reverse-append}
use Rattle.cany_base.specs.declared.slot_note.SlotNote.{SlotNote}
use Rattle.cany_base.specs.Bounded.{Bounded}
use Rattle.can_bus.specs.Rest.{idle_note}
use Rattle.can_bus.proofs.RestFacts.{length-idle_trace, none_more, one_more}
use Rattle.can_bus.proofs.bus.push_idle.Goals as goal

pub loop-slot-init : goal.loop-slot-init
loop-slot-init c = record { notes = none_more 0 (reverse c.args.trace.now.items) (omega arith); room = refl }

pub push_copy-requires : goal.push_copy-requires
push_copy-requires c =
    let before : List SlotNote = c.args.trace.now.items in
    let long : length (reverse c.loop-slot.trace.items) ≡ c.loop-slot._slot + length (reverse before) =
    ap (λ (t : List SlotNote). length t) c.loop-slot.invariant.notes ∙ length-idle_trace c.loop-slot._slot (reverse before) in
    omega (arith, long, length-reverse c.loop-slot.trace.items, length-reverse before, c.loop-slot.invariant.room, c.requires, c.loop-slot-test.true)

pub loop-slot-preserved : goal.loop-slot-preserved
loop-slot-preserved c =
    let now : List SlotNote = c.loop-slot.trace.items in
    let note : c.idle_note-idle.result ≡ idle_note (length (reverse now)) =
    c.idle_note-idle.ensures ∙ ap idle_note (c.len.ensures.len ∙ sym (length-reverse now)) in
    record {
      notes =
          ap (λ (b : Bounded SlotNote). reverse b.items) c.push_copy.ensures ∙ reverse-append now (c.idle_note-idle.result ∷ [])
          ∙ ap (λ n. n ∷ reverse now) note ∙ one_more c.loop-slot._slot (reverse c.args.trace.now.items) (reverse now) c.loop-slot.invariant.notes;
      room = ap (λ (b : Bounded SlotNote). b.room) c.push_copy.ensures ∙ c.loop-slot.invariant.room;
    }
