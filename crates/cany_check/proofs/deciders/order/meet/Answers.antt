use Rattle.std.proofs.Common.{◌≡◌, ◌<◌, ◌∷◌, ◌∙◌, [], ℕ, List, ap, arith, drop, length, subst, sym, false}
use Rattle.std.specs.Prelude.{Some, Vec}
use Rattle.std.specs.Global.{Global}
use Rattle.cany_check.specs.declared.deciders.order.Item.{Item}
use Rattle.cany_check.specs.Deciding.Meeting.{GoesOn}
use Rattle.cany_check.specs.Deciding.Reference.{cut, parting_at}
use Rattle.cany_check.specs.Accounts.Words.{same_key}
use Rattle.cany_check.proofs.Deciding.MeetingFacts.{after_one, appended, counts_at, differs, met, rest_of}
use Rattle.std.proofs.lemmas.List.{get_or_default}
use Rattle.cany_check.proofs.deciders.order.meet.Goals.{then-at-len+in_ok-push, else-at-len+else-not-is_same}
use Rattle.cany_check.proofs.deciders.order.meet.Goals as goal

pub returns-then-not-is_same-clause-off : goal.returns-then-not-is_same-clause-off
returns-then-not-is_same-clause-off c p e =
    let list = c.args.reference.now.items in
    let slice = c.as_slice.result.now in
    let at = c.place_from-at.result in
    let item = c.args.item.now in
    let here = c.index.result.now in
    let below : at < length list =
    omega (arith, c.place_from-at.ensures.within, c.if-at-len.false, c.len.ensures, c.as_slice.ensures.len, ap (λ (l : List Item). length l) c.as_slice.ensures.value) in
    let same : c.index-then-not-is_same.result.now ≡ here =
    c.index-then-not-is_same.ensures ∙ get_or_default list at c.index-then-not-is_same.result.now here below ∙ sym c.index.ensures in
    let other : same_key here.msg item.msg ≡ false = sym c.is_same.ensures ∙ c.if-not-is_same.true in
    differs c.args.from item here c.args.cursor.now list at below c.index.ensures (rest_of c.args.from at c.args.cursor.now.next slice list c.as_slice.ensures.value c.place_from-at.ensures.rest)
    (counts_at c.args.from at slice list c.as_slice.ensures.value c.place_from-at.ensures.later here below c.index.ensures) other p
    (ap (λ (x : Item). Some (parting_at (record { place = c.args.cursor.now.place; here = x; there = item }))) (sym same) ∙ ap Some (sym c.parting_at.ensures) ∙ e)

pub returns-clause-on : goal.returns-clause-on
returns-clause-on c none = elim c.if-at-len.branch [
  | then-at-len+in_ok-push w ↦
      subst (λ (l : List Item). GoesOn c.args.from (item ∷ []) c.args.cursor.now (after_one at c.args.cursor.now) list l) (sym (ap (λ (v : Vec Item Global). v.items) w.reference-is ∙ w.in_ok-push.ensures.items))
      (appended c.args.from item c.args.cursor.now list at (omega (arith, w.if-at-len.true, c.len.ensures, c.as_slice.ensures.len, ap (λ (l : List Item). length l) c.as_slice.ensures.value))
      rest c.place_from-at.ensures.after c.requires.behind)
  | else-at-len+else-not-is_same w ↦
      let below : at < length list =
      omega (arith, c.place_from-at.ensures.within, w.if-at-len.false, c.len.ensures, c.as_slice.ensures.len, ap (λ (l : List Item). length l) c.as_slice.ensures.value) in
      subst (λ (l : List Item). GoesOn c.args.from (item ∷ []) c.args.cursor.now (after_one at c.args.cursor.now) list l) (sym (ap (λ (v : Vec Item Global). v.items) w.reference-is))
      (met c.args.from item w.index.result.now c.args.cursor.now list at below w.index.ensures rest
      (counts_at c.args.from at slice list c.as_slice.ensures.value c.place_from-at.ensures.later w.index.result.now below w.index.ensures)
      (sym w.is_same.ensures ∙ w.if-not-is_same.false) c.place_from-at.ensures.after c.requires.behind)
]
  where
    list : List Item
    list = c.args.reference.now.items

    slice : List Item
    slice = c.as_slice.result.now

    at : ℕ
    at = c.place_from-at.result

    item : Item
    item = c.args.item.now

    rest : cut c.args.from (drop at list) ≡ cut c.args.from (drop c.args.cursor.now.next list)
    rest = rest_of c.args.from at c.args.cursor.now.next slice list c.as_slice.ensures.value c.place_from-at.ensures.rest
