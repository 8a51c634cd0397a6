use Rattle.std.proofs.Common.{◌≡◌, false, ap, sym, ◌∙◌}
use Rattle.std.specs.Prelude.{Some, slice_get}
use Rattle.std.proofs.lemmas.Option.{none-some, same_Some}
use Rattle.cany_check.specs.Deciding.MessageSubjects.{place_named}
use Rattle.cany_check.specs.Accounts.Words.{is_delivery}
use Rattle.cany_check.proofs.Deciding.MessageFateFacts.{named_at, tells_of_message, tells_of_no_message}
use Rattle.cany_check.proofs.deciders.messages.PlacesSubjects.told_by.Goals as goal

pub returns-then-is_delivery : goal.returns-then-is_delivery
returns-then-is_delivery c =
    let p = c.in-Some.place in
    let named : place_named c.args.self.now c.args.entry.now ≡ Some p = sym c.place_named.ensures ∙ c.in-Some.is in
    tells_of_message c.args.self.now c.messages-messages.ensures.numbered c.args.entry.now p c.index-messages-place.result named
    (named_at c.args.self.now c.messages-messages.result.now c.args.entry.now p c.index-messages-place.result c.messages-messages.ensures.messages named c.index-messages-place.is)
    (sym c.is_delivery.ensures ∙ c.if-is_delivery.true)

pub returns-else-is_delivery : goal.returns-else-is_delivery
returns-else-is_delivery c =
    let ms = c.args.self.now in
    let m = c.index-messages-place.result in
    let named : place_named ms c.args.entry.now ≡ Some c.in-Some.place = sym c.place_named.ensures ∙ c.in-Some.is in
    let at = named_at ms c.messages-messages.result.now c.args.entry.now c.in-Some.place m c.messages-messages.ensures.messages named c.index-messages-place.is in
    let not_it : is_delivery m c.args.entry.now ≡ false = sym c.is_delivery.ensures ∙ c.if-is_delivery.false in
    tells_of_no_message ms c.messages-messages.ensures.numbered c.args.entry.now (λ k x there is.
    let same_place : k ≡ c.in-Some.place = same_Some k c.in-Some.place (sym there ∙ named) in
    let same : x ≡ m = same_Some x m (sym is ∙ ap (slice_get ms) same_place ∙ at) in
    ap (λ y. is_delivery y c.args.entry.now) same ∙ not_it)

pub returns-in-None : goal.returns-in-None
returns-in-None c =
    tells_of_no_message c.args.self.now c.messages-messages.ensures.numbered c.args.entry.now (λ k x there is.
    absurd (none-some k (sym c.in-None.is ∙ c.place_named.ensures ∙ there)))
