use Rattle.std.proofs.Common.{◌≡◌, ◌∙◌, ap, length, refl, sym, Some, None}
use Rattle.std.specs.Prelude.{slice_get}
use Rattle.std.proofs.lemmas.Option.{slice_get_read}
use Rattle.cany_base.specs.Frame.{FrameParts}
use Rattle.cany_check.specs.Accounts.Places.{place_of}
use Rattle.cany_check.specs.declared.account.record.MessageRecord.{MessageRecord}
use Rattle.cany_check.proofs.Accounts.MessageFacts.{idle, key_of, of_message_at, of_no_message}
use Rattle.cany_check.proofs.account.message_slots.go_over.Goals as goal

-- the frame carried the data of a message
pub returns-in-Some-find : goal.returns-in-Some-find
returns-in-Some-find c = λ trace so.
    let messages = c.args.messages.now in
    let place = c.in-Some-find.place in
    let m : MessageRecord = c.index-messages-place.result in
    let found : place_of (key_of c.in-Some.frame) messages ≡ Some place =
    ap (λ (f : FrameParts). place_of (key_of f) messages) (sym c.frame.view_is) ∙ ap (place_of (record { origin = c.frame.inside.node; seq = c.frame.inside.number })) (sym c.requires.places) ∙ sym c.find.ensures.place ∙ c.in-Some-find.is in
    let at : slice_get messages place ≡ Some m = slice_get_read messages (length messages) place m refl (rw c.requires.places at c.in-Some-find.ensures.within) c.index-messages-place.is in
    of_message_at messages c.args.note.now trace c.in-Some.frame c.in-Some.is c.requires.numbered place m c.args.slots.now _ c.slots_after.result so found at c.slots_after.ensures

-- it did not
pub returns-in_default-find : goal.returns-in_default-find
returns-in_default-find c = λ trace so.
    let messages = c.args.messages.now in
    let none : place_of (key_of c.in-Some.frame) messages ≡ None =
    ap (λ (f : FrameParts). place_of (key_of f) messages) (sym c.frame.view_is) ∙ ap (place_of (record { origin = c.frame.inside.node; seq = c.frame.inside.number })) (sym c.requires.places) ∙ sym c.find.ensures.place ∙ c.in_default-find.is in
    so ∙ of_no_message messages c.args.note.now trace c.in-Some.frame c.in-Some.is none

-- the slot was idle
pub returns-in_default : goal.returns-in_default
returns-in_default c = λ trace so. so ∙ idle c.args.messages.now c.args.note.now trace c.in_default.is
