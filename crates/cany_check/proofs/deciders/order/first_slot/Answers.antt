use Rattle.std.proofs.Common.{◌≡◌, ◌<◌, ◌∙◌, ℕ, List, ap, length, refl, subst, sym}
use Rattle.std.specs.Prelude.{option_map, slice_index_or, None, Option, Some}
use Rattle.std.specs.Option.{option_and_then}
use Rattle.std.proofs.lemmas.Option.{slice_get_read}
use Rattle.cany_base.specs.declared.message.MsgKey.{MsgKey}
use Rattle.cany_check.specs.declared.account.record.MessageRecord.{MessageRecord}
use Rattle.cany_check.specs.declared.account.record.FirstAndLast.{FirstAndLast}
use Rattle.cany_check.specs.Accounts.Places.{place_of}
use Rattle.cany_check.specs.Deciding.Reference.{first_slot}
use Rattle.cany_check.proofs.Accounts.PlacesFacts.{at_place, no_place}
use Rattle.cany_check.proofs.deciders.order.first_slot.Goals as goal

abbrev slot_of : MessageRecord → Option ℕ
slot_of m = option_map (λ (slots : FirstAndLast). slots.first) m.carried

unknown : (messages : List MessageRecord) (key : MsgKey) → place_of key messages ≡ None → first_slot messages key ≡ None
unknown messages key e = ap (option_and_then slot_of) (no_place key messages e)

known : (messages : List MessageRecord) (key : MsgKey) (place : ℕ) (m : MessageRecord) → place_of key messages ≡ Some place → place < length messages
    → m ≡ slice_index_or messages place m → first_slot messages key ≡ slot_of m
known messages key place m e within is =
    ap (option_and_then slot_of) (sym (at_place key messages place e) ∙ slice_get_read messages (length messages) place m refl within is)

pub returns-in_err-place : goal.returns-in_err-place
returns-in_err-place c =
    let missing : place_of c.args.key.now c.args.messages.now ≡ None = ap (place_of c.args.key.now) (sym c.requires) ∙ sym c.in_err-place.ensures.place in
    c.from_residual.ensures ∙ sym (unknown c.args.messages.now c.args.key.now missing)

pub returns-in_err-slots : goal.returns-in_err-slots
returns-in_err-slots c =
    let found : place_of c.args.key.now c.args.messages.now ≡ Some c.in_ok-place.place = ap (place_of c.args.key.now) (sym c.requires) ∙ sym c.in_ok-place.ensures.place in
    let m = c.index-messages-place.result in
    c.from_residual-in_err-slots.ensures
    ∙ sym (known c.args.messages.now c.args.key.now c.in_ok-place.place m found (subst (λ (l : List MessageRecord). c.in_ok-place.place < length l) c.requires c.in_ok-place.ensures.within) c.index-messages-place.is
    ∙ ap slot_of c.index-messages-place.is ∙ ap (option_map (λ (slots : FirstAndLast). slots.first)) c.in_err-slots.was)

pub returns : goal.returns
returns c =
    let found : place_of c.args.key.now c.args.messages.now ≡ Some c.in_ok-place.place = ap (place_of c.args.key.now) (sym c.requires) ∙ sym c.in_ok-place.ensures.place in
    let m = c.index-messages-place.result in
    sym (known c.args.messages.now c.args.key.now c.in_ok-place.place m found (subst (λ (l : List MessageRecord). c.in_ok-place.place < length l) c.requires c.in_ok-place.ensures.within) c.index-messages-place.is
    ∙ ap slot_of c.index-messages-place.is ∙ ap (option_map (λ (slots : FirstAndLast). slots.first)) c.in_ok-slots.was)
