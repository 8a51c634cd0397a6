use Rattle.std.proofs.Common.{◌≡◌, ◌<◌, Vec, [], length, ap, sym, subst, ◌∙◌, arith}
use Rattle.std.specs.Prelude.{IfSome, slice_get, slice_index_or}
use Rattle.std.specs.Global.{Global}
use Rattle.std.proofs.lemmas.List.{length-map}
use Rattle.cany_check.specs.Accounts.Places.{lists_of, place_of}
use Rattle.cany_check.proofs.Accounts.PlacesFacts.{copied_at, found_in_row, place_within, row_items}
use Rattle.cany_check.proofs.account.places.Places.find.Goals as goal

found : (c : goal.After-copied) → c.copied.result ≡ place_of c.args.key c.self.inside.messages.now
found c =
    let rows = c.self.inside.of_origin.items in
    let k = c.args.key in
    let at : c.from.result ≡ k.origin = c.from.ensures ∙ c.get.ensures.value in
    let rows_number = length-map rows (λ (r : Vec _ Global). r.items) in
    let row = row_items rows c.from.result c.index-row.result.now (omega (arith, rows_number, c.self.invariant.rows.number, at, c.get.ensures.in_range, c.get.ensures.value)) c.index-row.ensures in
    c.copied.ensures ∙ copied_at c.get-2.result c.deref.result.now c.from-2.result c.get-2.ensures.lookup.0 c.get-2.ensures.lookup.1
    ∙ ap (slice_get c.deref.result.now) c.from-2.ensures
    ∙ ap (λ l. slice_get l k.seq) (c.deref.ensures.value ∙ row ∙ ap (λ o. slice_index_or (lists_of rows) o []) at ∙ c.self.invariant.rows.each k.origin (omega (arith, c.get.ensures.in_range, c.get.ensures.value)))
    ∙ found_in_row c.self.inside.messages.now c.self.invariant.numbered k

pub returns-clause-place : goal.returns-clause-place
returns-clause-place c = found c ∙ ap (place_of c.args.key) c.self.view_is

pub returns-clause-within : goal.returns-clause-within
returns-clause-within c =
    subst (λ r. IfSome r (λ place. place < length c.args.self.now)) (sym (found c ∙ ap (place_of c.args.key) c.self.view_is)) (place_within c.args.key c.args.self.now)
