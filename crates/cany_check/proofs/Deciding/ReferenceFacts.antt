-- What one pass with a list of reference finds is the witness of one order.
use Rattle.std.proofs.Common.{◌≡◌, ℕ, ◌≤◌, ◌⊎◌, Bool, true, false, List, [], ◌∷◌, ◌++◌, map, drop, take, length, refl, ap, sym, subst, ◌∙◌, arith, inl, inr}
use Rattle.std.specs.Prelude.{filter, max, nat_le, option_map, Option, None, Some}
use Rattle.std.specs.List.{AllByRecursion}
use Rattle.std.specs.Option.{option_map_or, option_or}
use Rattle.std.proofs.lemmas.Bool.{cases_Bool, leb-false, leb-true}
use Rattle.std.proofs.lemmas.List.{append-nil, append_assoc, drop_all, length-append, length-map, map-append, take-append-drop, take-map, take_at}
use Rattle.std.proofs.lemmas.List.Elements.{filter-append}
use Rattle.cany_base.specs.declared.message.MsgKey.{MsgKey}
use Rattle.cany_model.proofs.Among.{Each-append, Each-drop, Each-weaker}
use Rattle.cany_check.specs.declared.deciders.findings.Parting.{Parting}
use Rattle.cany_check.specs.declared.deciders.order.Item.{Item}
use Rattle.cany_check.specs.Accounts.Account.{AccountParts, LogParts}
use Rattle.cany_check.specs.Deciding.OneOrder.{by_from, deliveries_from, difference, first_parting, parting, parting_from, parting_of, put_by_from}
use Rattle.cany_check.specs.Deciding.Reference.{Clash, clash, cut, delivery, first_clash, first_slot, items_in, items_of, parting_at, with_items}
use Rattle.cany_check.specs.Accounts.Words.{correct}
use Rattle.cany_check.proofs.Deciding.Clashes.{IsClash, clash_none, clash_some, difference_at, difference_none, keys}
use Rattle.cany_check.proofs.Deciding.ItemFacts.{IsOf, cut_again, cut_append, cut_whole, deliveries_are, each_cut, each_from, each_item, each_of_parts, item_keys, keys_of_cut}

-- ---- lists

-- one item of two lists, one after the other, stands in the first or in the second
record InFirst (xs before after : List Item) (x : Item) : Type 0 where
  rest : List Item
  is : xs ≡ before ++ x ∷ rest

record InSecond (xs ys before after : List Item) (x : Item) : Type 0 where
  between : List Item
  before_is : before ≡ xs ++ between
  is : ys ≡ between ++ x ∷ after

where_it_is : (xs ys before after : List Item) (x : Item) → xs ++ ys ≡ before ++ x ∷ after → InFirst xs before after x ⊎ InSecond xs ys before after x
where_it_is [] ys before after x e = inr (record { between = before; before_is = refl; is = e })
where_it_is (y ∷ xs) ys [] after x e =
    let here : y ≡ x = cc in
    inl (record { rest = xs; is = ap (λ z. z ∷ xs) here })
where_it_is (y ∷ xs) ys (z ∷ before) after x e =
    let here : y ≡ z = cc in
    let later : xs ++ ys ≡ before ++ x ∷ after = cc in
    elim (where_it_is xs ys before after x later) [
      | inl first ↦ inl (record { rest = first.rest; is = ap (λ w. w ∷ xs) here ∙ ap (λ l. z ∷ l) first.is })
      | inr second ↦ inr (record { between = second.between; before_is = ap (λ w. w ∷ before) (sym here) ∙ ap (λ l. y ∷ l) second.before_is; is = second.is })
    ]

-- an item of a cut is one of the list
record IsSplit (t : ℕ) (xs before after : List Item) (x : Item) : Type 0 where
  front : List Item
  back : List Item
  is : xs ≡ front ++ x ∷ back
  front_is : cut t front ≡ before
  since : nat_le t x.carried ≡ true

split_cut : (t : ℕ) (xs before after : List Item) (x : Item) → cut t xs ≡ before ++ x ∷ after → IsSplit t xs before after x
split_cut t [] before after x e = absurd (none_there before e)
  where
    none_there : (l : List Item) → [] ≡ l ++ x ∷ after → ⊥
    none_there [] f = absurd (cc)
    none_there (y ∷ l) f = absurd (cc)
split_cut t (y ∷ xs) before after x e = elim (cases_Bool (nat_le t y.carried)) [
  | inl since ↦ at_first (λ l f. split_cut t xs l after x f) since before (rw since at e)
  | inr early ↦
      let rest = split_cut t xs before after x (rw early at e) in
      record { front = y ∷ rest.front; back = rest.back; is = ap (λ l. y ∷ l) rest.is; front_is = rw early rest.front_is; since = rest.since }
]
  where
    at_first : ((l : List Item) → cut t xs ≡ l ++ x ∷ after → IsSplit t xs l after x) → nat_le t y.carried ≡ true → (l : List Item) → y ∷ cut t xs ≡ l ++ x ∷ after → IsSplit t (y ∷ xs) l after x
    at_first more since [] f =
        let here : y ≡ x = cc in
        record { front = []; back = xs; is = ap (λ z. z ∷ xs) here; front_is = refl; since = subst (λ z. nat_le t z.carried ≡ true) here since }
    at_first more since (z ∷ l) f =
        let here : y ≡ z = cc in
        let later : cut t xs ≡ l ++ x ∷ after = cc in
        let rest = more l later in
        record {
          front = y ∷ rest.front;
          back = rest.back;
          is = ap (λ m. y ∷ m) rest.is;
          front_is = rw since (ap (λ w. w ∷ cut t rest.front) here ∙ ap (λ m. z ∷ m) rest.front_is);
          since = rest.since;
        }

module _ (a : AccountParts) where
  abbrev all_items : LogParts → List Item
  all_items x = items_in a.messages x.node x.entries

  abbrev keeps : ℕ → MsgKey → Bool
  keeps t key = option_map_or (nat_le t) (first_slot a.messages key) false

  all_of : (x : LogParts) → AllByRecursion (IsOf a.messages) (all_items x)
  all_of x = Each-weaker (λ item. IsOf a.messages item × (item.node ≡ x.node)) (IsOf a.messages) (λ item h. h.0) (all_items x) (each_item a.messages x.node x.entries)

  all_by : (x : LogParts) → AllByRecursion (λ (item : Item). item.node ≡ x.node) (items_of a.messages x)
  all_by x =
      each_cut a.messages (λ item. item.node ≡ x.node) x.from (all_items x)
      (Each-weaker (λ item. IsOf a.messages item × (item.node ≡ x.node)) (λ item. item.node ≡ x.node) (λ item h. h.1) (all_items x) (each_item a.messages x.node x.entries))

  -- ---- beginnings

  -- what the node delivered is a beginning of the list
  record Begins (list : List Item) (x : LogParts) : Type 0 where
    rest : List MsgKey
    is : item_keys (items_of a.messages x) ++ rest ≡ item_keys (cut x.from list)

  begins_more : (list more : List Item) (x : LogParts) → Begins list x → Begins (list ++ more) x
  begins_more list more x b = record {
    rest = b.rest ++ item_keys (cut x.from more);
    is = sym (append_assoc (item_keys (items_of a.messages x)) b.rest (item_keys (cut x.from more)))
        ∙ ap (λ l. l ++ item_keys (cut x.from more)) b.is
        ∙ sym (ap item_keys (cut_append x.from list more) ∙ map-append (λ (item : Item). item.msg) (cut x.from list) (cut x.from more));
  }

  -- also from a later slot on
  begins_from : (list : List Item) → AllByRecursion (IsOf a.messages) list → (x : LogParts) (t : ℕ) → x.from ≤ t → Begins list x
      → (rest : List MsgKey) × (item_keys (cut t (all_items x)) ++ rest ≡ item_keys (cut t list))
  begins_from list of x t later b = (
    filter (keeps t) b.rest,
    ap (λ l. item_keys l ++ filter (keeps t) b.rest) (sym (cut_again x.from t (all_items x) later))
        ∙ ap (λ l. l ++ filter (keeps t) b.rest) (keys_of_cut a.messages t (items_of a.messages x) (each_cut a.messages (IsOf a.messages) x.from (all_items x) (all_of x)))
        ∙ sym (filter-append (keeps t) (item_keys (items_of a.messages x)) b.rest)
        ∙ ap (filter (keeps t)) b.is
        ∙ sym (keys_of_cut a.messages t (cut x.from list) (each_cut a.messages (IsOf a.messages) x.from list of))
        ∙ ap item_keys (cut_again x.from t list later),
  )

  -- ---- where the items come from

  -- the item was appended by one of these nodes, and those before it had by then delivered no more
  -- than what stands before the item
  record IsBrought (done : List LogParts) (front : List Item) (item : Item) : Type 0 where
    before : List LogParts
    by : LogParts
    after : List LogParts
    split : done ≡ before ++ by ∷ after
    named : item.node ≡ by.node
    own_before : List Item
    own_after : List Item
    has_it : items_of a.messages by ≡ own_before ++ item ∷ own_after
    same : item_keys own_before ≡ item_keys (cut by.from front)
    others : AllByRecursion (Begins front) before

  -- what the list is after these nodes
  record Reached (list : List Item) (done : List LogParts) : Type 0 where
    of : AllByRecursion (IsOf a.messages) list
    begins : AllByRecursion (Begins list) done
    brought : (front back : List Item) (item : Item) → list ≡ front ++ item ∷ back → IsBrought done front item

  nothing_yet : Reached [] []
  nothing_yet = record { of = tt; begins = tt; brought = λ front back item e. absurd (none_there front back item e) }
    where
      none_there : (front back : List Item) (item : Item) → [] ≡ front ++ item ∷ back → ⊥
      none_there [] back item e = absurd (cc)
      none_there (x ∷ front) back item e = absurd (cc)

  -- ---- a node that does not differ

  module _ (list : List Item) (done : List LogParts) (reached : Reached list done) (j : LogParts) (agrees : clash 0 (cut j.from list) (items_of a.messages j) ≡ None) where
    abbrev mine : List Item
    mine = items_of a.messages j

    abbrev known : ℕ
    known = length (cut j.from list)

    abbrev new : List Item
    new = drop known mine

    mine_from : AllByRecursion (λ (item : Item). nat_le j.from item.carried ≡ true) mine
    mine_from = each_from j.from (all_items j)

    new_from : cut j.from new ≡ new
    new_from = cut_whole j.from new (Each-drop (λ (item : Item). nat_le j.from item.carried ≡ true) known mine mine_from)

    list_keys : item_keys (cut j.from (list ++ new)) ≡ item_keys (cut j.from list) ++ item_keys new
    list_keys =
        ap item_keys (cut_append j.from list new) ∙ map-append (λ (item : Item). item.msg) (cut j.from list) (cut j.from new)
        ∙ ap (λ l. item_keys (cut j.from list) ++ item_keys l) new_from

    mine_keys : item_keys mine ≡ item_keys (take known mine) ++ item_keys new
    mine_keys = ap item_keys (sym (take-append-drop known mine)) ∙ map-append (λ (item : Item). item.msg) (take known mine) new

    -- where the list is a beginning of what the node delivered
    module _ (rest : List MsgKey) (goes_on : item_keys (cut j.from list) ++ rest ≡ item_keys mine) where
      first_keys : item_keys (take known mine) ≡ item_keys (cut j.from list)
      first_keys =
          sym (take-map (λ (item : Item). item.msg) known mine) ∙ ap (take known) (sym goes_on)
          ∙ take_at (item_keys (cut j.from list)) rest known (length-map (cut j.from list) (λ (item : Item). item.msg))

      whole : item_keys mine ≡ item_keys (cut j.from (list ++ new))
      whole = mine_keys ∙ ap (λ l. l ++ item_keys new) first_keys ∙ sym list_keys

    begins_own : Begins (list ++ new) j
    begins_own = elim (clash_none 0 (cut j.from list) mine agrees) [
      | inl longer ↦ record { rest = []; is = append-nil (item_keys mine) ∙ whole longer.0 longer.1 }
      | inr shorter ↦ record {
        rest = shorter.0 ++ item_keys new;
        is = sym (append_assoc (item_keys mine) shorter.0 (item_keys new)) ∙ ap (λ l. l ++ item_keys new) shorter.1 ∙ sym list_keys;
      }
    ]

    -- the list has something new only where it is a beginning of what the node delivered
    first_as_list : (item : Item) (between back : List Item) → new ≡ between ++ item ∷ back → item_keys (take known mine) ≡ item_keys (cut j.from list)
    first_as_list item between back is = elim (clash_none 0 (cut j.from list) mine agrees) [
      | inl longer ↦ first_keys longer.0 longer.1
      | inr shorter ↦ absurd (none_there between (sym (drop_all known mine (short shorter.0 shorter.1)) ∙ is))
    ]
      where
        short : (rest : List MsgKey) → item_keys mine ++ rest ≡ item_keys (cut j.from list) → length mine ≤ known
        short rest e =
            omega (arith, length-map mine (λ (x : Item). x.msg), length-map (cut j.from list) (λ (x : Item). x.msg), length-append (item_keys mine) rest, ap length e)

        none_there : (l : List Item) → [] ≡ l ++ item ∷ back → ⊥
        none_there [] f = absurd (cc)
        none_there (y ∷ l) f = absurd (cc)

    brought_before : (front back : List Item) (item : Item) → InFirst list front back item → IsBrought (done ++ j ∷ []) front item
    brought_before front back item first =
        let it = reached.brought front first.rest item first.is in
        record {
          before = it.before;
          by = it.by;
          after = it.after ++ j ∷ [];
          split = ap (λ l. l ++ j ∷ []) it.split ∙ append_assoc it.before (it.by ∷ it.after) (j ∷ []);
          named = it.named;
          own_before = it.own_before;
          own_after = it.own_after;
          has_it = it.has_it;
          same = it.same;
          others = it.others;
        }

    brought_now : (front back : List Item) (item : Item) → InSecond list new front back item → IsBrought (done ++ j ∷ []) front item
    brought_now front back item second =
        let between = second.between in
        let parts = each_of_parts (λ (x : Item). x.node ≡ j.node) between (item ∷ back)
        (subst (AllByRecursion (λ (x : Item). x.node ≡ j.node)) second.is (Each-drop (λ (x : Item). x.node ≡ j.node) known mine (all_by j))) in
        let since = each_of_parts (λ (x : Item). nat_le j.from x.carried ≡ true) between (item ∷ back)
        (subst (AllByRecursion (λ (x : Item). nat_le j.from x.carried ≡ true)) second.is (Each-drop (λ (x : Item). nat_le j.from x.carried ≡ true) known mine mine_from)) in
        record {
          before = done;
          by = j;
          after = [];
          split = refl;
          named = parts.1.0;
          own_before = take known mine ++ between;
          own_after = back;
          has_it = sym (take-append-drop known mine) ∙ ap (λ l. take known mine ++ l) second.is ∙ sym (append_assoc (take known mine) between (item ∷ back));
          same = map-append (λ (x : Item). x.msg) (take known mine) between
              ∙ ap (λ l. l ++ item_keys between) (first_as_list item between back second.is)
              ∙ ap (λ l. item_keys (cut j.from list) ++ item_keys l) (sym (cut_whole j.from between since.0))
              ∙ sym (map-append (λ (x : Item). x.msg) (cut j.from list) (cut j.from between))
              ∙ ap item_keys (sym (cut_append j.from list between) ∙ ap (cut j.from) (sym second.before_is));
          others = Each-weaker (Begins list) (Begins front)
              (λ x b. subst (λ l. Begins l x) (sym second.before_is) (begins_more list between x b)) done reached.begins;
        }

    goes_on : Reached (list ++ new) (done ++ j ∷ [])
    goes_on = record {
      of = Each-append (IsOf a.messages) list new reached.of (Each-drop (IsOf a.messages) known mine (each_cut a.messages (IsOf a.messages) j.from (all_items j) (all_of j)));
      begins = Each-append (Begins (list ++ new)) done (j ∷ []) (Each-weaker (Begins list) (Begins (list ++ new)) (λ x b. begins_more list new x b) done reached.begins) (begins_own, tt);
      brought = λ front back item e. elim (where_it_is list new front back item e) [
        | inl first ↦ brought_before front back item first
        | inr second ↦ brought_now front back item second
      ];
    }

  -- ---- partings

  -- the keys of what a node delivered from a slot on
  keys_of_items : (items : List Item) → keys (map delivery items) ≡ item_keys items
  keys_of_items [] = refl
  keys_of_items (item ∷ items) = ap (λ l. item.msg ∷ l) (keys_of_items items)

  delivered_keys : (t : ℕ) (x : LogParts) → keys (deliveries_from a t x) ≡ item_keys (cut t (all_items x))
  delivered_keys t x = ap keys (deliveries_are a t x.node x.entries) ∙ keys_of_items (cut t (all_items x))

  -- two nodes do not part where what both delivered are beginnings of one list
  no_parting : (x j : LogParts) → x.from ≤ j.from → (all p q : List MsgKey) → item_keys (cut j.from (all_items x)) ++ p ≡ all → item_keys (items_of a.messages j) ++ q ≡ all
      → parting_of a x j ≡ None
  no_parting x j before all p q e f =
      let t : max x.from j.from ≡ j.from = omega (arith, before) in
      ap (λ (s : ℕ). option_map (λ d. record { first = x.node; second = j.node; place = d.place; here = d.here; there = d.there }) (difference (deliveries_from a s x) (deliveries_from a s j))) t
      ∙ ap (option_map (λ d. record { first = x.node; second = j.node; place = d.place; here = d.here; there = d.there }))
      (difference_none (deliveries_from a j.from x) (deliveries_from a j.from j) all p q
      (ap (λ l. l ++ p) (delivered_keys j.from x) ∙ e) (ap (λ l. l ++ q) (delivered_keys j.from j) ∙ f))

  none_parts : (before : List LogParts) (j : LogParts) → AllByRecursion (λ x. parting_of a x j ≡ None) before → parting_from a before j ≡ None
  unfolding parting_from
  none_parts [] j h = refl
  none_parts (x ∷ before) j h = ap (λ o. option_or o (parting_from a before j)) h.0 ∙ none_parts before j h.1

  first_parts : (before after : List LogParts) (by j : LogParts) (p : Parting) → AllByRecursion (λ x. parting_of a x j ≡ None) before → parting_of a by j ≡ Some p
      → parting_from a (before ++ by ∷ after) j ≡ Some p
  unfolding parting_from
  first_parts [] after by j p h e = ap (λ o. option_or o (parting_from a after j)) e
  first_parts (x ∷ before) after by j p h e = ap (λ o. option_or o (parting_from a (before ++ by ∷ after) j)) h.0 ∙ first_parts before after by j p h.1 e

  module _ (list : List Item) (done : List LogParts) (reached : Reached list done) (j : LogParts) (earlier : AllByRecursion (λ (x : LogParts). x.from ≤ j.from) done) where
    both : (P Q : LogParts → Type 0) (xs : List LogParts) → AllByRecursion P xs → AllByRecursion Q xs → AllByRecursion (λ x. P x × Q x) xs
    both P Q [] h k = tt
    both P Q (x ∷ xs) h k = ((h.0, k.0), both P Q xs h.1 k.1)

    none_found : clash 0 (cut j.from list) (items_of a.messages j) ≡ None → parting_from a done j ≡ None
    none_found agrees =
        none_parts done j (Each-weaker (λ x. Begins list x × (x.from ≤ j.from)) (λ x. parting_of a x j ≡ None) one done (both (Begins list) (λ x. x.from ≤ j.from) done reached.begins earlier))
      where
        one : (x : LogParts) → Begins list x × (x.from ≤ j.from) → parting_of a x j ≡ None
        one x h =
            let begins = begins_from list reached.of x j.from h.1 h.0 in
            elim (clash_none 0 (cut j.from list) (items_of a.messages j) agrees) [
              | inl longer ↦
                  no_parting x j h.1 (item_keys (items_of a.messages j)) (begins.0 ++ longer.0) []
                  (sym (append_assoc (item_keys (cut j.from (all_items x))) begins.0 longer.0) ∙ ap (λ l. l ++ longer.0) begins.1 ∙ longer.1) (append-nil (item_keys (items_of a.messages j)))
              | inr shorter ↦ no_parting x j h.1 (item_keys (cut j.from list)) begins.0 shorter.0 begins.1 shorter.1
            ]

    some_found : (c : Clash) → clash 0 (cut j.from list) (items_of a.messages j) ≡ Some c → parting_from a done j ≡ Some (parting_at c)
    some_found c e = ap (λ l. parting_from a l j) from.split ∙ first_parts from.before from.after from.by j (parting_at c) earlier_agree own_parts
      where
        is : IsClash 0 (cut j.from list) (items_of a.messages j) c
        is = clash_some 0 (cut j.from list) (items_of a.messages j) c e

        at : IsSplit j.from list is.before is.after c.here
        at = split_cut j.from list is.before is.after c.here is.here_is

        from : IsBrought done at.front c.here
        from = reached.brought at.front at.back c.here at.is

        theirs : List MsgKey
        theirs = item_keys is.other_before

        -- what stands before the item, and what of the other node's stands before the place
        front_of : AllByRecursion (IsOf a.messages) at.front
        front_of = (each_of_parts (IsOf a.messages) at.front (c.here ∷ at.back) (subst (AllByRecursion (IsOf a.messages)) at.is reached.of)).0

        front_keys : item_keys (cut j.from at.front) ≡ theirs
        front_keys = ap item_keys at.front_is ∙ is.same

        mine_keys_are : item_keys (items_of a.messages j) ≡ theirs ++ c.there.msg ∷ item_keys is.other_after
        mine_keys_are = ap item_keys is.there_is ∙ map-append (λ (x : Item). x.msg) is.other_before (c.there ∷ is.other_after)

        in_done : AllByRecursion (λ (x : LogParts). x.from ≤ j.from) (from.before ++ from.by ∷ from.after)
        in_done = subst (AllByRecursion (λ (x : LogParts). x.from ≤ j.from)) from.split earlier

        parts_before : AllByRecursion (λ (x : LogParts). x.from ≤ j.from) from.before × AllByRecursion (λ (x : LogParts). x.from ≤ j.from) (from.by ∷ from.after)
        parts_before = each_of_parts (λ (x : LogParts). x.from ≤ j.from) from.before (from.by ∷ from.after) in_done

        earlier_agree : AllByRecursion (λ x. parting_of a x j ≡ None) from.before
        earlier_agree =
            Each-weaker (λ x. Begins at.front x × (x.from ≤ j.from)) (λ x. parting_of a x j ≡ None) one from.before (both (Begins at.front) (λ x. x.from ≤ j.from) from.before from.others parts_before.0)
          where
            one : (x : LogParts) → Begins at.front x × (x.from ≤ j.from) → parting_of a x j ≡ None
            one x h =
                let begins = begins_from at.front front_of x j.from h.1 h.0 in
                no_parting x j h.1 (item_keys (items_of a.messages j)) (begins.0 ++ c.there.msg ∷ item_keys is.other_after) []
                (sym (append_assoc (item_keys (cut j.from (all_items x))) begins.0 (c.there.msg ∷ item_keys is.other_after))
                ∙ ap (λ l. l ++ c.there.msg ∷ item_keys is.other_after) (begins.1 ∙ front_keys) ∙ sym mine_keys_are)
                (append-nil (item_keys (items_of a.messages j)))

        -- what the node that appended the item has before it
        own : List Item
        own = cut j.from from.own_before

        own_of : AllByRecursion (IsOf a.messages) from.own_before
        own_of =
            (each_of_parts (IsOf a.messages) from.own_before (c.here ∷ from.own_after)
            (subst (AllByRecursion (IsOf a.messages)) from.has_it (each_cut a.messages (IsOf a.messages) from.by.from (all_items from.by) (all_of from.by)))).0

        by_before : from.by.from ≤ j.from
        by_before = parts_before.1.0

        own_keys : item_keys own ≡ theirs
        own_keys =
            keys_of_cut a.messages j.from from.own_before own_of ∙ ap (filter (keeps j.from)) from.same
            ∙ sym (keys_of_cut a.messages j.from (cut from.by.from at.front) (each_cut a.messages (IsOf a.messages) from.by.from at.front front_of))
            ∙ ap item_keys (cut_again from.by.from j.from at.front by_before) ∙ front_keys

        own_items : cut j.from (all_items from.by) ≡ own ++ c.here ∷ cut j.from from.own_after
        own_items =
            sym (cut_again from.by.from j.from (all_items from.by) by_before) ∙ ap (cut j.from) from.has_it
            ∙ cut_append j.from from.own_before (c.here ∷ from.own_after) ∙ ap (λ l. own ++ l) (rw at.since refl)

        there_named : c.there.node ≡ j.node
        there_named =
            (each_of_parts (λ (x : Item). x.node ≡ j.node) is.other_before (c.there ∷ is.other_after)
            (subst (AllByRecursion (λ (x : Item). x.node ≡ j.node)) is.there_is (all_by j))).1.0

        own_difference : difference (deliveries_from a j.from from.by) (deliveries_from a j.from j)
            ≡ Some (record { place = length (map delivery own); here = delivery c.here; there = delivery c.there })
        own_difference =
            ap (λ l. difference l (deliveries_from a j.from j))
            (deliveries_are a j.from from.by.node from.by.entries ∙ ap (map delivery) own_items ∙ map-append delivery own (c.here ∷ cut j.from from.own_after))
            ∙ ap (difference (map delivery own ++ delivery c.here ∷ map delivery (cut j.from from.own_after)))
            (deliveries_are a j.from j.node j.entries ∙ ap (map delivery) is.there_is ∙ map-append delivery is.other_before (c.there ∷ is.other_after))
            ∙ difference_at (map delivery own) (map delivery is.other_before) (map delivery (cut j.from from.own_after)) (map delivery is.other_after) (delivery c.here) (delivery c.there)
            (keys_of_items own ∙ own_keys ∙ sym (keys_of_items is.other_before)) is.other

        place_is : length (map delivery own) ≡ c.place
        place_is =
            omega (
              arith,
              length-map own delivery,
              length-map own (λ (x : Item). x.msg),
              ap length own_keys,
              length-map is.other_before (λ (x : Item). x.msg),
              ap length is.same,
              length-map is.before (λ (x : Item). x.msg),
              is.place_is,
            )

        own_parts : parting_of a from.by j ≡ Some (parting_at c)
        own_parts =
            let t : max from.by.from j.from ≡ j.from = omega (arith, by_before) in
            ap (λ (s : ℕ). option_map (λ d. record { first = from.by.node; second = j.node; place = d.place; here = d.here; there = d.there })
            (difference (deliveries_from a s from.by) (deliveries_from a s j))) t
            ∙ ap (option_map (λ d. record { first = from.by.node; second = j.node; place = d.place; here = d.here; there = d.there })) own_difference
            ∙ (λ k. Some (record { first = (sym from.named) k; second = (sym there_named) k; place = place_is k; here = delivery c.here; there = delivery c.there }))

  -- ---- one node after another

  Ascends : List LogParts → Type 0
  Ascends [] = Unit {0}
  Ascends (x ∷ logs) = AllByRecursion (λ (y : LogParts). x.from ≤ y.from) logs × Ascends logs

  found_is : (list : List Item) (done logs : List LogParts) → Reached list done → Ascends logs → AllByRecursion (λ x. AllByRecursion (λ (y : LogParts). x.from ≤ y.from) logs) done
      → first_parting a done logs ≡ option_map parting_at (first_clash a.messages list logs)
  unfolding first_parting first_clash Ascends
  found_is list done [] reached ascends earlier = refl
  found_is list done (j ∷ logs) reached ascends earlier =
      by_clash (λ e. found_is (with_items j.from (items_of a.messages j) list) (done ++ j ∷ []) logs (goes_on list done reached j e) ascends.1 before_rest)
      (clash 0 (cut j.from list) (items_of a.messages j)) refl
    where
      before_j : AllByRecursion (λ (x : LogParts). x.from ≤ j.from) done
      before_j = Each-weaker (λ x. AllByRecursion (λ (y : LogParts). x.from ≤ y.from) (j ∷ logs)) (λ x. x.from ≤ j.from) (λ x h. h.0) done earlier

      before_rest : AllByRecursion (λ x. AllByRecursion (λ (y : LogParts). x.from ≤ y.from) logs) (done ++ j ∷ [])
      before_rest =
          Each-append (λ x. AllByRecursion (λ (y : LogParts). x.from ≤ y.from) logs) done (j ∷ [])
          (Each-weaker (λ x. AllByRecursion (λ (y : LogParts). x.from ≤ y.from) (j ∷ logs)) (λ x. AllByRecursion (λ (y : LogParts). x.from ≤ y.from) logs) (λ x h. h.1) done earlier)
          (ascends.0, tt)

      by_clash : (clash 0 (cut j.from list) (items_of a.messages j) ≡ None
          → first_parting a (done ++ j ∷ []) logs ≡ option_map parting_at (first_clash a.messages (with_items j.from (items_of a.messages j) list) logs))
          → (o : Option Clash) → clash 0 (cut j.from list) (items_of a.messages j) ≡ o
          → first_parting a done (j ∷ logs) ≡ option_map parting_at (first_clash a.messages list (j ∷ logs))
      by_clash more None e =
          ap (λ p. option_or p (first_parting a (done ++ j ∷ []) logs)) (none_found list done reached j before_j e)
          ∙ more e
          ∙ sym (ap (λ o. option_map parting_at (option_or o (first_clash a.messages (with_items j.from (items_of a.messages j) list) logs))) e)
      by_clash more (Some c) e =
          ap (λ p. option_or p (first_parting a (done ++ j ∷ []) logs)) (some_found list done reached j before_j c e)
          ∙ sym (ap (λ o. option_map parting_at (option_or o (first_clash a.messages (with_items j.from (items_of a.messages j) list) logs))) e)

  put_ascends : (x : LogParts) (logs : List LogParts) → Ascends logs → Ascends (put_by_from x logs)
  unfolding put_by_from Ascends
  put_ascends x [] h = (tt, tt)
  put_ascends x (y ∷ logs) h = elim (cases_Bool (nat_le x.from y.from)) [
    | inl first ↦
        let le : x.from ≤ y.from = leb-true x.from y.from first in
        rw first ((le, Each-weaker (λ (z : LogParts). y.from ≤ z.from) (λ z. x.from ≤ z.from) (λ z k. omega (arith, le, k)) logs h.0), h)
    | inr later ↦
        rw later (put_each (λ (z : LogParts). y.from ≤ z.from) x logs (below later) h.0, put_ascends x logs h.1)
  ]
    where
      below : nat_le x.from y.from ≡ false → y.from ≤ x.from
      below e = omega (arith, leb-false x.from y.from e)

      put_each : (P : LogParts → Type 0) (z : LogParts) (l : List LogParts) → P z → AllByRecursion P l → AllByRecursion P (put_by_from z l)
      put_each P z [] p k = (p, tt)
      put_each P z (w ∷ l) p k = elim (cases_Bool (nat_le z.from w.from)) [
        | inl first ↦ rw first (p, k)
        | inr later ↦ rw later (k.0, put_each P z l p k.1)
      ]

  by_from_ascends : (logs : List LogParts) → Ascends (by_from logs)
  unfolding by_from Ascends
  by_from_ascends [] = tt
  by_from_ascends (x ∷ logs) = put_ascends x (by_from logs) (by_from_ascends logs)

  pub parting_is : option_map parting_at (first_clash a.messages [] (by_from (correct a))) ≡ parting a
  parting_is = sym (found_is [] [] (by_from (correct a)) nothing_yet (by_from_ascends (correct a)) tt)
