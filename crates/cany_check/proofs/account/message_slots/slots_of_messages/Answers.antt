use Rattle.std.proofs.Common.{◌≡◌, ◌∙◌, ◌∷◌, List, ap, arith, drop, length, map, reverse, sym, take}
use Rattle.std.proofs.lemmas.List.{length-map, take_all, take_at}
use Rattle.cany_base.specs.declared.slot_note.SlotNote.{SlotNote}
use Rattle.cany_check.specs.Accounts.Records.{message_slots}
use Rattle.cany_check.proofs.Idle.AttemptFacts.{slots_more}
use Rattle.cany_check.proofs.Accounts.MessageFacts.{at_first}
use Rattle.cany_check.proofs.account.message_slots.slots_of_messages.Goals as goal

pub loop-i-init : goal.loop-i-init
loop-i-init c = c.in_ok-slots.ensures.items_if_clones_equal (λ y same. same) ∙ at_first c.args.messages.now

pub go_over-requires-clause-count : goal.go_over-requires-clause-count
go_over-requires-clause-count c =
    ap length (c.as_mut_slice.ensures.value ∙ c.loop-i.invariant) ∙ length-map c.args.messages.now (message_slots (reverse (take c.loop-i.i c.args.trace.now)))

pub loop-i-preserved : goal.loop-i-preserved
loop-i-preserved c =
    let trace = c.args.trace.now in
    let messages = c.args.messages.now in
    let before = reverse (take c.loop-i.i trace) in
    let note : SlotNote = c.index-trace-i.result in
    let new : c.go_over.new.slots ≡ map (message_slots (note ∷ before)) messages = c.go_over.ensures before (c.as_mut_slice.ensures.value ∙ c.loop-i.invariant) in
    let full : length c.go_over.new.slots ≡ c.loop-i.slots.len =
    omega (arith, ap length new, length-map messages (message_slots (note ∷ before)), ap length c.loop-i.invariant, length-map messages (message_slots before), c.loop-i.slots.ok.0) in
    take_at c.go_over.new.slots (drop (length c.go_over.new.slots) c.loop-i.slots.items) c.loop-i.slots.len full
    ∙ new ∙ ap (λ t. map (message_slots t) messages) (sym (slots_more trace c.loop-i.i note c.loop-i-test.true c.index-trace-i.is))

pub returns : goal.returns
returns c = c.loop-i.invariant ∙ ap (λ (t : List SlotNote). map (message_slots (reverse t)) c.args.messages.now) (take_all c.loop-i.i c.args.trace.now c.loop-i-test.false)
