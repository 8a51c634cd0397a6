-- Where a list of items differs from another, and where the deliveries that they are do.
use Rattle.std.proofs.Common.{◌≡◌, ℕ, ◌+◌, ◌⊎◌, false, List, [], ◌∷◌, ◌++◌, map, length, refl, ap, sym, subst, ◌∙◌, arith, inl, inr}
use Rattle.std.specs.Prelude.{option_map, None, Some}
use Rattle.std.proofs.lemmas.Bool.{cases_Bool}
use Rattle.cany_base.specs.declared.message.MsgKey.{MsgKey}
use Rattle.cany_check.specs.declared.deciders.findings.Delivery.{Delivery}
use Rattle.cany_check.specs.declared.deciders.order.Item.{Item}
use Rattle.cany_check.specs.Deciding.OneOrder.{difference, one_later}
use Rattle.cany_check.specs.Deciding.Reference.{Clash, clash}
use Rattle.cany_check.specs.Accounts.Words.{same_key}
use Rattle.cany_check.proofs.Deciding.Decided.{same_key-self, same_key-true}
use Rattle.cany_check.proofs.Deciding.ItemFacts.{item_keys}

-- ---- deliveries

abbrev pub keys : List Delivery → List MsgKey
keys ds = map (λ (d : Delivery). d.msg) ds

-- two beginnings of one list do not differ
pub difference_none : (xs ys : List Delivery) (all p q : List MsgKey) → keys xs ++ p ≡ all → keys ys ++ q ≡ all → difference xs ys ≡ None
unfolding difference
difference_none [] ys all p q e f = refl
difference_none (x ∷ xs) [] all p q e f = refl
difference_none (x ∷ xs) (y ∷ ys) all p q e f =
    let both : x.msg ∷ (keys xs ++ p) ≡ y.msg ∷ (keys ys ++ q) = e ∙ sym f in
    let here : x.msg ≡ y.msg = cc in
    let later : keys xs ++ p ≡ keys ys ++ q = cc in
    rw (same_key-self x.msg y.msg here) (ap (option_map one_later) (difference_none xs ys (keys ys ++ q) p q later refl))

-- they differ at the first place at which their keys do
pub difference_at : (xs ys ps qs : List Delivery) (x y : Delivery) → keys xs ≡ keys ys → same_key x.msg y.msg ≡ false
    → difference (xs ++ x ∷ ps) (ys ++ y ∷ qs) ≡ Some (record { place = length xs; here = x; there = y })
unfolding difference
difference_at [] [] ps qs x y e other = rw other refl
difference_at [] (b ∷ ys) ps qs x y e other = absurd (cc)
difference_at (b ∷ xs) [] ps qs x y e other = absurd (cc)
difference_at (b ∷ xs) (c ∷ ys) ps qs x y e other =
    let here : b.msg ≡ c.msg = cc in
    let later : keys xs ≡ keys ys = cc in
    let place : length xs + 1 ≡ length (b ∷ xs) = omega arith in
    rw (same_key-self b.msg c.msg here) (ap (option_map one_later) (difference_at xs ys ps qs x y later other) ∙ ap (λ n. Some (record { place = n; here = x; there = y })) place)

-- ---- items

some_none : (c : Clash) → Some c ≡ None → ⊥
some_none c e = absurd (cc)

-- where they do not differ one is a beginning of the other
pub clash_none : (k : ℕ) (xs ys : List Item) → clash k xs ys ≡ None
    → ((rest : List MsgKey) × (item_keys xs ++ rest ≡ item_keys ys)) ⊎ ((rest : List MsgKey) × (item_keys ys ++ rest ≡ item_keys xs))
unfolding clash
clash_none k [] ys h = inl (item_keys ys, refl)
clash_none k (x ∷ xs) [] h = inr (item_keys (x ∷ xs), refl)
clash_none k (x ∷ xs) (y ∷ ys) h = elim (cases_Bool (same_key x.msg y.msg)) [
  | inl same ↦
      let here : x.msg ≡ y.msg = same_key-true x.msg y.msg same in
      elim (clash_none (k + 1) xs ys (rw same at h)) [
        | inl more ↦ inl (more.0, ap (λ key. key ∷ (item_keys xs ++ more.0)) here ∙ ap (λ l. y.msg ∷ l) more.1)
        | inr more ↦ inr (more.0, ap (λ key. key ∷ (item_keys ys ++ more.0)) (sym here) ∙ ap (λ l. x.msg ∷ l) more.1)
      ]
  | inr other ↦ absurd (some_none (record { place = k; here = x; there = y }) (rw other at h))
]

pub record IsClash (k : ℕ) (xs ys : List Item) (c : Clash) : Type 0 where
  pub before : List Item
  pub after : List Item
  pub other_before : List Item
  pub other_after : List Item
  pub here_is : xs ≡ before ++ c.here ∷ after
  pub there_is : ys ≡ other_before ++ c.there ∷ other_after
  pub same : item_keys before ≡ item_keys other_before
  pub place_is : c.place ≡ k + length before
  pub other : same_key c.here.msg c.there.msg ≡ false

pub clash_some : (k : ℕ) (xs ys : List Item) (c : Clash) → clash k xs ys ≡ Some c → IsClash k xs ys c
unfolding clash
clash_some k [] ys c h = absurd (cc)
clash_some k (x ∷ xs) [] c h = absurd (cc)
clash_some k (x ∷ xs) (y ∷ ys) c h = elim (cases_Bool (same_key x.msg y.msg)) [
  | inl same ↦
      let here : x.msg ≡ y.msg = same_key-true x.msg y.msg same in
      let rest = clash_some (k + 1) xs ys c (rw same at h) in
      record {
        before = x ∷ rest.before;
        after = rest.after;
        other_before = y ∷ rest.other_before;
        other_after = rest.other_after;
        here_is = ap (λ l. x ∷ l) rest.here_is;
        there_is = ap (λ l. y ∷ l) rest.there_is;
        same = ap (λ key. key ∷ item_keys rest.before) here ∙ ap (λ l. y.msg ∷ l) rest.same;
        place_is = rest.place_is ∙ omega arith;
        other = rest.other;
      }
  | inr apart ↦ at_once apart (rw apart at h)
]
  where
    at_once : same_key x.msg y.msg ≡ false → Some (record { place = k; here = x; there = y }) ≡ Some c → IsClash k (x ∷ xs) (y ∷ ys) c
    at_once apart e =
        let is : record { place = k; here = x; there = y } ≡ c = cc in
        subst (IsClash k (x ∷ xs) (y ∷ ys)) is (record {
          before = [];
          after = xs;
          other_before = [];
          other_after = ys;
          here_is = refl;
          there_is = refl;
          same = refl;
          place_is = omega arith;
          other = apart;
        })
