-- One item, or what an entry delivers, is compared with the list of reference.
use Rattle.std.proofs.Common.{◌≡◌, ℕ, ◌+◌, ◌<◌, ◌≤◌, List, [], ◌∷◌, ◌++◌, true, false, drop, length, refl, ap, sym, subst, ◌∙◌, arith, append_assoc}
use Rattle.std.specs.Prelude.{if◌then◌else◌, is_some, nat_le, slice_get, slice_index_or, option_map, option_to_list, None, Option, Some}
use Rattle.std.specs.Option.{option_or}
use Rattle.std.proofs.lemmas.Bool.{le-leb, lt-leb}
use Rattle.std.proofs.lemmas.List.{drop_all, drop_more, length-append}
use Rattle.std.proofs.lemmas.Option.{slice_get_read}
use Rattle.cany_base.specs.declared.log_entry.LogEntry.{LogEntry}
use Rattle.cany_check.specs.declared.deciders.findings.Parting.{Parting}
use Rattle.cany_check.specs.declared.deciders.order.Cursor.{Cursor}
use Rattle.cany_check.specs.declared.deciders.order.Item.{Item}
use Rattle.cany_check.specs.declared.account.record.MessageRecord.{MessageRecord}
use Rattle.cany_check.specs.Accounts.Account.{LogParts}
use Rattle.cany_check.specs.Deciding.Meeting.{ClashesBy, GoesOn, ahead, entry_items}
use Rattle.cany_check.specs.Deciding.Reference.{Clash, clash, cut, first_clash, item_in, items_in, items_of, parting_at, with_items}
use Rattle.cany_check.specs.Accounts.Words.{same_key}
use Rattle.cany_check.proofs.Deciding.ItemFacts.{items_more}

-- ---- one item

abbrev pub after_one : ℕ → Cursor → Cursor
after_one at cursor = record { next = at + 1; place = cursor.place + 1 }

-- the list has nothing more that counts: the item is appended
pub appended : (from : ℕ) (item : Item) (cursor : Cursor) (before : List Item) (at : ℕ) → at ≡ length before → cut from (drop at before) ≡ ahead from cursor before
    → cursor.next ≤ at → cursor.place ≤ cursor.next → GoesOn from (item ∷ []) cursor (after_one at cursor) before (before ++ item ∷ [])
unfolding clash
appended from item cursor before at end rest next behind = record {
  within = omega (arith, length-append before (item ∷ []), end);
  behind = omega (arith, next, behind);
  clash_is = λ others. ap (λ l. clash (cursor.place + 1) l others) none_new ∙ sym (ap (λ l. clash cursor.place l (item ∷ others)) none_old);
  list_is = λ others.
      ap (λ (l : List Item). (before ++ item ∷ []) ++ drop (length l) others) none_new ∙ append_assoc before (item ∷ []) others
      ∙ sym (ap (λ (l : List Item). before ++ drop (length l) (item ∷ others)) none_old);
}
  where
    none_new : cut from (drop (at + 1) (before ++ item ∷ [])) ≡ []
    none_new = ap (cut from) (drop_all (at + 1) (before ++ item ∷ []) (omega (arith, length-append before (item ∷ []), end)))

    none_old : ahead from cursor before ≡ []
    none_old = sym rest ∙ ap (cut from) (drop_all at before (omega (arith, end)))

-- what of the list counts begins with this item
begins : (from : ℕ) (here : Item) (cursor : Cursor) (before : List Item) (at : ℕ) → at < length before → here ≡ slice_index_or before at here
    → cut from (drop at before) ≡ ahead from cursor before → nat_le from here.carried ≡ true → ahead from cursor before ≡ here ∷ cut from (drop (at + 1) before)
begins from here cursor before at below is rest later =
    sym rest ∙ ap (cut from) (drop_more before at here below ∙ ap (λ (x : Item). x ∷ drop (at + 1) before) (sym is))
    ∙ ap (λ b. if b then here ∷ cut from (drop (at + 1) before) else cut from (drop (at + 1) before)) later

-- the list has the same item next
pub met : (from : ℕ) (item here : Item) (cursor : Cursor) (before : List Item) (at : ℕ) → at < length before → here ≡ slice_index_or before at here
    → cut from (drop at before) ≡ ahead from cursor before → nat_le from here.carried ≡ true → same_key here.msg item.msg ≡ true
    → cursor.next ≤ at → cursor.place ≤ cursor.next → GoesOn from (item ∷ []) cursor (after_one at cursor) before before
unfolding clash
met from item here cursor before at below is rest later same next behind =
    let starts = begins from here cursor before at below is rest later in
    let r : List Item = cut from (drop (at + 1) before) in
    record {
      within = omega (arith, below);
      behind = omega (arith, next, behind);
      clash_is = λ others.
          sym (ap (λ l. clash cursor.place l (item ∷ others)) starts
          ∙ ap (λ b. if b then clash (cursor.place + 1) r others else Some (record { place = cursor.place; here = here; there = item })) same);
      list_is = λ others. sym (ap (λ (l : List Item). before ++ drop (length l) (item ∷ others)) starts);
    }

-- the list has another item next
pub differs : (from : ℕ) (item here : Item) (cursor : Cursor) (before : List Item) (at : ℕ) → at < length before → here ≡ slice_index_or before at here
    → cut from (drop at before) ≡ ahead from cursor before → nat_le from here.carried ≡ true → same_key here.msg item.msg ≡ false
    → (p : Parting) → Some (parting_at (record { place = cursor.place; here = here; there = item })) ≡ Some p → ClashesBy from (item ∷ []) cursor before p
unfolding clash
differs from item here cursor before at below is rest later other p found others =
    ap (λ l. option_map parting_at (clash cursor.place l (item ∷ others))) (begins from here cursor before at below is rest later)
    ∙ ap (λ b. option_map parting_at (if b then clash (cursor.place + 1) (cut from (drop (at + 1) before)) others else Some (record { place = cursor.place; here = here; there = item }))) other
    ∙ found

-- what the search for the next item that counts tells, of the list itself
pub rest_of : (from at next : ℕ) (slice list : List Item) → slice ≡ list → cut from (drop at slice) ≡ cut from (drop next slice) → cut from (drop at list) ≡ cut from (drop next list)
rest_of from at next slice list is h = subst (λ (l : List Item). cut from (drop at l) ≡ cut from (drop next l)) is h

pub counts_at : (from at : ℕ) (slice list : List Item) → slice ≡ list → ((x : Item) → slice_get slice at ≡ Some x → nat_le from x.carried ≡ true)
    → (here : Item) → at < length list → here ≡ slice_index_or list at here → nat_le from here.carried ≡ true
counts_at from at slice list is h here below here_is =
    h here (ap (λ (l : List Item). slice_get l at) is ∙ slice_get_read list (length list) at here refl below here_is)

-- ---- what an entry delivers

-- of nothing that counts the comparison stays where it is
pub unmoved : (from : ℕ) (items : List Item) (cursor : Cursor) (list : List Item) → items ≡ [] → cursor.next ≤ length list → cursor.place ≤ cursor.next
    → GoesOn from items cursor cursor list list
unmoved from items cursor list none within behind =
    subst (λ (l : List Item). GoesOn from l cursor cursor list list) (sym none)
    (record { within = within; behind = behind; clash_is = λ others. refl; list_is = λ others. refl })

module _ (messages : List MessageRecord) (log : LogParts) (entry : LogEntry) where
  pub nothing_delivered : (o : Option Item) → o ≡ item_in messages log.node entry → o ≡ None → entry_items messages log entry ≡ []
  nothing_delivered o is none = ap (λ (x : Option Item). cut log.from (option_to_list x)) (sym is ∙ none)

  pub carried_before : (o : Option Item) (item : Item) → o ≡ item_in messages log.node entry → o ≡ Some item → item.carried < log.from → entry_items messages log entry ≡ []
  carried_before o item is some before =
      ap (λ (x : Option Item). cut log.from (option_to_list x)) (sym is ∙ some) ∙ ap (λ b. if b then item ∷ [] else []) (lt-leb log.from item.carried before)

  pub carried_since : (o : Option Item) (item : Item) → o ≡ item_in messages log.node entry → o ≡ Some item → log.from ≤ item.carried → entry_items messages log entry ≡ item ∷ []
  carried_since o item is some since =
      ap (λ (x : Option Item). cut log.from (option_to_list x)) (sym is ∙ some) ∙ ap (λ b. if b then item ∷ [] else []) (le-leb log.from item.carried since)

-- ---- a whole node

pub clash_end : (place : ℕ) (items : List Item) → clash place items [] ≡ None
unfolding clash
clash_end place [] = refl
clash_end place (x ∷ items) = refl

-- a difference that is found is the only one
pub found_is : (found other : Option Parting) → is_some found ≡ true → ((p : Parting) → found ≡ Some p → other ≡ Some p) → found ≡ other
found_is None other some h = absurd (cc)
found_is (Some p) other some h = sym (h p refl)

pub none_is : (found : Option Parting) → is_some found ≡ false → found ≡ None
none_is None none = refl
none_is (Some p) none = absurd (cc)

module _ (messages : List MessageRecord) where
  pub entry_more : (from node : ℕ) (entries : List LogEntry) (i : ℕ) (entry : LogEntry) → i < length entries → entry ≡ slice_index_or entries i entry
      → cut from (items_in messages node (drop i entries)) ≡ cut from (option_to_list (item_in messages node entry)) ++ cut from (items_in messages node (drop (i + 1) entries))
  entry_more from node entries i entry within is =
      ap (λ (l : List LogEntry). cut from (items_in messages node l)) (drop_more entries i entry within ∙ ap (λ (x : LogEntry). x ∷ drop (i + 1) entries) (sym is))
      ∙ items_more messages from node entry (drop (i + 1) entries)

  -- ---- one node after another

  on_some : (o others : Option Clash) (found : Option Parting) → found ≡ option_map parting_at o → is_some found ≡ true → found ≡ option_map parting_at (option_or o others)
  on_some None others found e some =
      let none : is_some found ≡ false = ap is_some e in
      absurd (cc)
  on_some (Some c) others found e some = e

  on_none : (o others : Option Clash) → option_map parting_at o ≡ None → option_or o others ≡ others
  on_none None others e = refl
  on_none (Some c) others e = absurd (cc)

  -- the first of these nodes differs from the list
  pub first_differs : (reference : List Item) (log : LogParts) (logs rest : List LogParts) (found : Option Parting) → rest ≡ log ∷ logs
      → found ≡ option_map parting_at (clash 0 (cut log.from reference) (items_of messages log)) → is_some found ≡ true
      → found ≡ option_map parting_at (first_clash messages reference rest)
  unfolding first_clash
  first_differs reference log logs rest found are e some =
      on_some (clash 0 (cut log.from reference) (items_of messages log)) (first_clash messages (with_items log.from (items_of messages log) reference) logs) found e some
      ∙ ap (λ (l : List LogParts). option_map parting_at (first_clash messages reference l)) (sym are)

  -- it does not
  pub first_agrees : (reference : List Item) (log : LogParts) (logs rest : List LogParts) → rest ≡ log ∷ logs
      → option_map parting_at (clash 0 (cut log.from reference) (items_of messages log)) ≡ None
      → first_clash messages reference rest ≡ first_clash messages (with_items log.from (items_of messages log) reference) logs
  unfolding first_clash
  first_agrees reference log logs rest are e =
      ap (λ (l : List LogParts). first_clash messages reference l) are
      ∙ on_none (clash 0 (cut log.from reference) (items_of messages log)) (first_clash messages (with_items log.from (items_of messages log) reference) logs) e

  pub nobody_left : (reference : List Item) (rest : List LogParts) → rest ≡ [] → first_clash messages reference rest ≡ None
  unfolding first_clash
  nobody_left reference rest are = ap (λ (l : List LogParts). first_clash messages reference l) are
