use Rattle.std.proofs.Common.{◌≡◌, ℕ, ◌+◌, ◌==◌, Vec, [], ◌∷◌, ◌++◌, length, take, ap, sym, subst, ◌∙◌, arith}
use Rattle.std.specs.Prelude.{if◌then◌else◌, slice_index_or}
use Rattle.std.specs.Global.{Global}
use Rattle.std.proofs.lemmas.List.{length-map, length-take-le, take_more}
use Rattle.cany_check.specs.declared.account.record.MessageRecord.{MessageRecord}
use Rattle.cany_check.specs.Accounts.Places.{AreRows, lists_of}
use Rattle.cany_check.proofs.Accounts.PlacesFacts.{no_rows, rows_more}
use Rattle.cany_check.proofs.account.places.places_of.Goals as goal

pub loop-i-init : goal.loop-i-init
loop-i-init c = no_rows (lists_of c.in_ok-of_origin.of_origin.items) c.in_ok-of_origin.ensures

pub loop-i-preserved : goal.loop-i-preserved
loop-i-preserved c =
    let ms = c.args.messages.now in
    let m = c.index-messages-i.result in
    let more : take (c.loop-i.i + 1) ms ≡ take c.loop-i.i ms ++ m ∷ [] =
    take_more ms c.loop-i.i m c.loop-i-test.true ∙ ap (λ (x : MessageRecord). take c.loop-i.i ms ++ x ∷ []) (sym c.index-messages-i.is) in
    let at : c.from.result ≡ m.key.origin = c.from.ensures ∙ c.get.ensures.value ∙ ap (λ (x : MessageRecord). x.key.origin) (sym c.index-messages-i.is) in
    let so_far : length (take c.loop-i.i ms) ≡ c.loop-i.i = length-take-le c.loop-i.i ms (omega arith) in
    let old = lists_of c.loop-i.of_origin.items in
    let new = lists_of c.add.new.rows.items in
    let same : length new ≡ length old =
    length-map c.add.new.rows.items (λ (r : Vec ℕ Global). r.items) ∙ c.in_ok-add.ensures.length ∙ sym (length-map c.loop-i.of_origin.items (λ (r : Vec ℕ Global). r.items)) in
    subst (λ l. AreRows l new) (sym more) (rows_more (take c.loop-i.i ms) m old new c.loop-i.invariant same (λ o.
    c.in_ok-add.ensures.rows o
    ∙ ap (λ k. if o == k then slice_index_or old o [] ++ c.loop-i.i ∷ [] else slice_index_or old o []) at
    ∙ ap (λ n. if o == m.key.origin then slice_index_or old o [] ++ n ∷ [] else slice_index_or old o []) (sym so_far)))
