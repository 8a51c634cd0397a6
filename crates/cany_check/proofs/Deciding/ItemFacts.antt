-- What nodes delivered of the messages that were carried: the items of a log, their keys, and what
-- is left of them from a slot on.
use Rattle.std.proofs.Common.{◌≡◌, ℕ, ◌≤◌, Bool, true, false, List, [], ◌∷◌, ◌++◌, map, refl, ap, sym, subst, ◌∙◌, arith, inl, inr}
use Rattle.std.specs.Prelude.{filter, filter_map, find, if◌then◌else◌, nat_le, option_map, option_to_list, Option, None, Some}
use Rattle.std.specs.List.{AllByRecursion, cons_option, flat_map}
use Rattle.std.specs.Option.{option_and_then, option_map_or}
use Rattle.std.proofs.lemmas.Bool.{cases_Bool, false≢true, le-leb, leb-true}
use Rattle.std.proofs.lemmas.List.{map-append}
use Rattle.std.proofs.lemmas.List.Elements.{filter-append}
use Rattle.cany_base.specs.declared.log_entry.LogEntry.{LogEntry}
use Rattle.cany_base.specs.declared.log_entry.LogEntry.TheVariants.{Deliver, Failed, View}
use Rattle.cany_base.specs.declared.message.MsgKey.{MsgKey}
use Rattle.cany_base.specs.declared.message.Service.TheVariants.{Tot}
use Rattle.cany_model.specs.Rules.Messages.{is_service}
use Rattle.cany_model.proofs.Among.{Each-filter, Each-first, Each-second}
use Rattle.cany_check.specs.declared.deciders.findings.Delivery.{Delivery}
use Rattle.cany_check.specs.declared.deciders.order.Item.{Item}
use Rattle.cany_check.specs.declared.account.record.MessageRecord.{MessageRecord}
use Rattle.cany_check.specs.declared.account.record.FirstAndLast.{FirstAndLast}
use Rattle.cany_check.specs.Accounts.Account.{AccountParts}
use Rattle.cany_check.specs.Deciding.OneOrder.{delivery_in, is_carried_from, is_of_slots_from}
use Rattle.cany_check.specs.Deciding.Reference.{cut, delivery, first_slot, item_in, items_in}
use Rattle.cany_check.specs.Accounts.Words.{same_key}

abbrev pub item_keys : List Item → List MsgKey
item_keys items = map (λ (item : Item). item.msg) items

-- ---- lists

pub each_of_parts : {X : Type 0} (P : X → Type 0) (xs ys : List X) → AllByRecursion P (xs ++ ys) → AllByRecursion P xs × AllByRecursion P ys
each_of_parts P xs ys h = (Each-first P xs ys h, Each-second P xs ys h)

each_made : {X Y : Type 0} (P : Y → Type 0) (f : X → Option Y) → ((x : X) (y : Y) → f x ≡ Some y → P y) → (xs : List X) → AllByRecursion P (filter_map f xs)
each_made P f h [] = tt
each_made {Y = Y} P f h (x ∷ xs) = by_first (each_made P f h xs) (f x) refl
  where
    by_first : AllByRecursion P (filter_map f xs) → (o : Option Y) → f x ≡ o → AllByRecursion P (filter_map f (x ∷ xs))
    by_first more None e = rw e more
    by_first more (Some y) e = rw e (h x y e, more)

-- ---- cuts

pub cut_append : (t : ℕ) (xs ys : List Item) → cut t (xs ++ ys) ≡ cut t xs ++ cut t ys
cut_append t xs ys = filter-append (λ (item : Item). nat_le t item.carried) xs ys

-- a cut at a slot is a part of a cut at an earlier one
pub cut_again : (s t : ℕ) (xs : List Item) → s ≤ t → cut t (cut s xs) ≡ cut t xs
cut_again s t [] h = refl
cut_again s t (x ∷ xs) h = elim (cases_Bool (nat_le s x.carried)) [
  | inl since ↦ rw since (ap (λ l. if nat_le t x.carried then x ∷ l else l) (cut_again s t xs h))
  | inr before ↦
      let fails : nat_le t x.carried ≡ false = le_false x.carried before in
      rw (before, fails) (cut_again s t xs h)
]
  where
    le_false : (n : ℕ) → nat_le s n ≡ false → nat_le t n ≡ false
    le_false n e = elim (cases_Bool (nat_le t n)) [
      | inl later ↦ absurd (false≢true (sym e ∙ le-leb s n (omega (arith, leb-true t n later, h))))
      | inr is ↦ is
    ]

abbrev IsFrom : ℕ → Item → Type 0
IsFrom t item = nat_le t item.carried ≡ true

pub each_from : (t : ℕ) (xs : List Item) → AllByRecursion (IsFrom t) (cut t xs)
each_from t [] = tt
each_from t (x ∷ xs) = elim (cases_Bool (nat_le t x.carried)) [
  | inl since ↦ rw since (since, each_from t xs)
  | inr before ↦ rw before (each_from t xs)
]

pub cut_whole : (t : ℕ) (xs : List Item) → AllByRecursion (IsFrom t) xs → cut t xs ≡ xs
cut_whole t [] h = refl
cut_whole t (x ∷ xs) h = rw h.0 (ap (λ l. x ∷ l) (cut_whole t xs h.1))

module _ (messages : List MessageRecord) where
  -- its slot is the first that carried its message
  abbrev pub IsOf : Item → Type 0
  IsOf item = first_slot messages item.msg ≡ Some item.carried

  abbrev keeps : ℕ → MsgKey → Bool
  keeps t key = option_map_or (nat_le t) (first_slot messages key) false

  pub keys_of_cut : (t : ℕ) (items : List Item) → AllByRecursion IsOf items → item_keys (cut t items) ≡ filter (keeps t) (item_keys items)
  keys_of_cut t [] h = refl
  keys_of_cut t (x ∷ items) h =
      let kept : keeps t x.msg ≡ nat_le t x.carried = ap (λ o. option_map_or (nat_le t) o false) h.0 in
      elim (cases_Bool (nat_le t x.carried)) [
        | inl since ↦ rw (kept, since) (ap (λ l. x.msg ∷ l) (keys_of_cut t items h.1))
        | inr before ↦ rw (kept, before) (keys_of_cut t items h.1)
      ]

  pub each_cut : (P : Item → Type 0) (t : ℕ) (items : List Item) → AllByRecursion P items → AllByRecursion P (cut t items)
  each_cut P t items h = Each-filter P (λ item. nat_le t item.carried) items h

  -- ---- the items of a log

  abbrev IsBy : ℕ → Item → Type 0
  IsBy node item = IsOf item × (item.node ≡ node)

  item_is : (node : ℕ) (entry : LogEntry) (item : Item) → item_in messages node entry ≡ Some item → IsBy node item
  item_is node (Deliver slot service msg payload) item e = by_service (is_service service Tot) e
    where
      made : ℕ → Item
      made carried = record { msg = msg; slot = slot; node = node; carried = carried }

      by_slot : (o : Option ℕ) → first_slot messages msg ≡ o → option_map made o ≡ Some item → IsBy node item
      by_slot None is h = absurd (cc)
      by_slot (Some carried) is h =
          let same : made carried ≡ item = cc in
          subst (IsBy node) same (is, refl)

      by_service : (b : Bool) → (if b then option_map made (first_slot messages msg) else None) ≡ Some item → IsBy node item
      by_service true h = by_slot (first_slot messages msg) refl h
      by_service false h = absurd (cc)
  item_is node (Failed slot failed cycle) item e = absurd (cc)
  item_is node (View slot number members) item e = absurd (cc)

  pub each_item : (node : ℕ) (entries : List LogEntry) → AllByRecursion (IsBy node) (items_in messages node entries)
  each_item node entries = each_made (IsBy node) (item_in messages node) (item_is node) entries

  pub items_more : (t node : ℕ) (entry : LogEntry) (entries : List LogEntry)
      → cut t (items_in messages node (entry ∷ entries)) ≡ cut t (option_to_list (item_in messages node entry)) ++ cut t (items_in messages node entries)
  items_more t node entry entries = by_first (item_in messages node entry)
    where
      by_first : (o : Option Item) → cut t (cons_option o (items_in messages node entries)) ≡ cut t (option_to_list o) ++ cut t (items_in messages node entries)
      by_first None = refl
      by_first (Some item) = cut_append t (item ∷ []) (items_in messages node entries)

-- what the log delivered, without what was first carried before a slot or never, are its items from
-- the slot on
module _ (a : AccountParts) (t : ℕ) (node : ℕ) where
  one_entry : (entry : LogEntry) → filter (is_of_slots_from a t) (delivery_in entry) ≡ map delivery (cut t (option_to_list (item_in a.messages node entry)))
  one_entry (Failed slot failed cycle) = refl
  one_entry (View slot number members) = refl
  one_entry (Deliver slot service msg payload) = elim (cases_Bool (is_service service Tot)) [
    | inl tot ↦ rw tot (by_find (find (λ m. same_key m.key msg) a.messages))
    | inr other ↦ rw other refl
  ]
    where
      d : Delivery
      d = record { msg = msg; slot = slot }

      made : ℕ → Item
      made carried = record { msg = msg; slot = slot; node = node; carried = carried }

      by_slot : (first : ℕ) → (if nat_le t first then d ∷ [] else []) ≡ map delivery (if nat_le t first then made first ∷ [] else [])
      by_slot first = elim (cases_Bool (nat_le t first)) [ inl since ↦ rw since refl | inr before ↦ rw before refl ]

      by_carried : (o : Option FirstAndLast) → (if option_map_or (λ (slots : FirstAndLast). nat_le t slots.first) o false then d ∷ [] else [])
          ≡ map delivery (cut t (option_to_list (option_map made (option_map (λ (slots : FirstAndLast). slots.first) o))))
      by_carried None = refl
      by_carried (Some slots) = by_slot slots.first

      by_find : (o : Option MessageRecord) → (if option_map_or (is_carried_from t) o false then d ∷ [] else [])
          ≡ map delivery (cut t (option_to_list (option_map made (option_and_then (λ (m : MessageRecord). option_map (λ (slots : FirstAndLast). slots.first) m.carried) o))))
      by_find None = refl
      by_find (Some m) = by_carried m.carried

  pub deliveries_are : (entries : List LogEntry) → filter (is_of_slots_from a t) (flat_map delivery_in entries) ≡ map delivery (cut t (items_in a.messages node entries))
  deliveries_are [] = refl
  deliveries_are (entry ∷ entries) =
      filter-append (is_of_slots_from a t) (delivery_in entry) (flat_map delivery_in entries)
      ∙ ap (λ l. l ++ filter (is_of_slots_from a t) (flat_map delivery_in entries)) (one_entry entry)
      ∙ ap (λ l. map delivery (cut t (option_to_list (item_in a.messages node entry))) ++ l) (deliveries_are entries)
      ∙ sym (map-append delivery (cut t (option_to_list (item_in a.messages node entry))) (cut t (items_in a.messages node entries)))
      ∙ ap (map delivery) (sym (items_more a.messages t node entry entries))
