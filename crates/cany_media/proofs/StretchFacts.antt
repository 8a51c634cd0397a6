-- Faults in the order of their slots: which one has a slot, and what entering one more changes.
use Rattle.std.proofs.Common.{◌≡◌, ℕ, zero, suc, ◌+◌, ◌<◌, ◌≤◌, ◌&&◌, Bool, true, false, nat_lt, max, if◌then◌else◌, ltb-false, List, [], ◌∷◌, length, get_or, Option, Some, None, IsTrue, refl, ap, sym, ◌∙◌, inl, inr, arith}
use Rattle.std.specs.Prelude.{nat_le, All, AllPairs, IsSome, slice_get}
use Rattle.std.specs.List.{insert, position_or_len}
use Rattle.std.specs.List.Sorted.{IsNonDecreasingBy, IsPartitionPoint}
use Rattle.std.specs.Option.{option_and_then}
use Rattle.std.proofs.lemmas.Bool.{and_parts, cases_Bool, cases_lt, false≢true, leb-true, ltb-true}
use Rattle.std.proofs.lemmas.Bool.Decides.{nat_tests}
use Rattle.std.proofs.lemmas.List.Elements.{All-cons, All-head, All-nil, All-tail}
use Rattle.std.proofs.lemmas.List.Kept.{AllPairs-cons}
use Rattle.std.proofs.lemmas.List.Folds.{find_at}
use Rattle.std.proofs.lemmas.Option.{slice_get_read}
use Rattle.cany_media.specs.Plan.{FaultParts, spans}
use Rattle.cany_media.specs.Stretches.{AreInOrder, HasShared, IsFree, found_at, next_at, place_at}

pub le_leb : (a b : ℕ) → a ≤ b → nat_le a b ≡ true
le_leb a b h = grind (arith, nat_tests)

pub gt_leb : (a b : ℕ) → b < a → nat_le a b ≡ false
gt_leb a b h = grind (arith, nat_tests)

leb_gt : (a b : ℕ) → nat_le a b ≡ false → b < a
leb_gt a b h = grind (arith, nat_tests)

-- ---- the order

pub rising : (xs : List FaultParts) → AreInOrder xs → IsNonDecreasingBy (λ fault. fault.to) xs
rising xs o i j d le below = elim (cases_lt i j) [
  | inl less ↦ let x = o.apart i j d less below in let y = o.ordered j d below in omega arith
  | inr same ↦ let e : i ≡ j = omega arith in rw e (omega arith)
]

rest : (x : FaultParts) (xs : List FaultParts) → AreInOrder (x ∷ xs) → AreInOrder xs
rest x xs o = record {
  ordered = All-tail (λ (fault : FaultParts). fault.from ≤ fault.to) x xs o.ordered;
  apart = λ i j d less below. o.apart (suc i) (suc j) d (omega arith) (omega arith);
}

-- all others begin after the first has ended
later : (x : FaultParts) (xs : List FaultParts) → AreInOrder (x ∷ xs) → All (λ (fault : FaultParts). x.to < fault.from) xs
later x xs o k d below = o.apart 0 (suc k) d (omega arith) (omega arith)

first_ordered : (x : FaultParts) (xs : List FaultParts) → AreInOrder (x ∷ xs) → x.from ≤ x.to
first_ordered x xs o = All-head (λ (fault : FaultParts). fault.from ≤ fault.to) x xs o.ordered

-- ---- the place

-- a place before which all fail, and from which on they pass
pub place_is : (p : FaultParts → Bool) (xs : List FaultParts) (i : ℕ) → i ≤ length xs → ((k : ℕ) (d : FaultParts) → k < i → p (get_or xs k d) ≡ false)
    → ((k : ℕ) (d : FaultParts) → i ≤ k → k < length xs → p (get_or xs k d) ≡ true) → i ≡ position_or_len p xs
place_is p [] i within before after = omega arith
place_is p (x ∷ xs) zero within before after = let here : p x ≡ true = after 0 x (omega arith) (omega arith) in rw here refl
place_is p (x ∷ xs) (suc i) within before after =
    let here : p x ≡ false = before 0 x (omega arith) in
    let more : i ≡ position_or_len p xs = place_is p xs i (omega arith) (λ k d less. before (suc k) d (omega arith)) (λ k d le below. after (suc k) d (omega arith) (omega arith)) in
    rw here (omega arith)

pub place_within : (slot : ℕ) (xs : List FaultParts) → place_at xs slot ≤ length xs
place_within slot [] = omega arith
place_within slot (x ∷ xs) = elim (cases_Bool (nat_le slot x.to)) [
  | inl here ↦ rw here (omega arith)
  | inr on ↦ let h = place_within slot xs in rw on (omega arith)
]

-- what a search by halving finds
pub place_found : (slot : ℕ) (xs : List FaultParts) (i : ℕ) → i ≤ length xs
    → IsPartitionPoint (λ (f : FaultParts). nat_lt f.to slot ≡ true) (λ (f : FaultParts). nat_lt f.to slot ≡ false) xs i → i ≡ place_at xs slot
place_found slot xs i within point =
    place_is (λ f. nat_le slot f.to) xs i within
    (λ k d less. gt_leb slot (get_or xs k d).to (ltb-true (get_or xs k d).to slot (point.0 k d (omega arith) less)))
    (λ k d le below. le_leb slot (get_or xs k d).to (ltb-false (get_or xs k d).to slot (point.1 k d le below)))

-- ---- which fault has a slot

none_spans : (slot : ℕ) (xs : List FaultParts) → All (λ (fault : FaultParts). slot < fault.from) xs → found_at xs slot ≡ None
none_spans slot [] past = refl
none_spans slot (x ∷ xs) past =
    let here : nat_le x.from slot ≡ false = gt_leb x.from slot (All-head (λ (fault : FaultParts). slot < fault.from) x xs past) in
    rw here (none_spans slot xs (All-tail (λ (fault : FaultParts). slot < fault.from) x xs past))

past_all : (slot to : ℕ) (xs : List FaultParts) → slot ≤ to → All (λ (fault : FaultParts). to < fault.from) xs → All (λ (fault : FaultParts). slot < fault.from) xs
past_all slot to xs le past k d below = let h = past k d below in omega arith

-- the fault, if it has begun
abbrev pub if_begun : ℕ → FaultParts → Option FaultParts
if_begun slot fault = if nat_le fault.from slot then Some fault else None

-- the first that does not end before the slot has it, where one does
pub found_next : (slot : ℕ) (xs : List FaultParts) → AreInOrder xs → found_at xs slot ≡ option_and_then (if_begun slot) (next_at xs slot)
found_next slot [] o = refl
found_next slot (x ∷ xs) o = elim (cases_Bool (nat_le slot x.to)) [
  | inl lasts ↦ elim (cases_Bool (nat_le x.from slot)) [
    | inl begun ↦ rw (begun, lasts, begun) refl
    | inr to_come ↦
        let none = none_spans slot xs (past_all slot x.to xs (leb-true slot x.to lasts) (later x xs o)) in
        rw (to_come, lasts, to_come) none
  ]
  | inr over ↦ elim (cases_Bool (nat_le x.from slot)) [
    | inl begun ↦ rw (begun, over) (found_next slot xs (rest x xs o))
    | inr to_come ↦ rw (to_come, over) (found_next slot xs (rest x xs o))
  ]
]

pub next_read : (slot place : ℕ) (xs table : List FaultParts) (f : FaultParts) → xs ≡ table → place ≡ place_at table slot → place < length xs → f ≡ get_or xs place f
    → Some f ≡ next_at table slot
next_read slot place xs table f same at below is =
    let read : slice_get xs place ≡ Some f = slice_get_read xs (length xs) place f refl below is in
    sym (find_at (λ y. nat_le slot y.to) table ∙ rw (sym at, sym same) read)

pub next_none : (slot place : ℕ) (xs table : List FaultParts) → xs ≡ table → place ≡ place_at table slot → length xs ≤ place → None ≡ next_at table slot
next_none slot place xs table same at past =
    sym (find_at (λ y. nat_le slot y.to) table ∙ rw (sym at, sym same) (read_past xs place past))
  where
    read_past : (ys : List FaultParts) (k : ℕ) → length ys ≤ k → slice_get ys k ≡ None
    read_past [] k h = refl
    read_past (y ∷ ys) zero h = absurd (omega arith)
    read_past (y ∷ ys) (suc k) h = read_past ys k (omega arith)

pub at_none : (slot : ℕ) (xs : List FaultParts) → AreInOrder xs → next_at xs slot ≡ None → None ≡ found_at xs slot
at_none slot xs o none = sym (found_next slot xs o ∙ rw none refl)

pub at_begun : (slot : ℕ) (xs : List FaultParts) (f : FaultParts) → AreInOrder xs → next_at xs slot ≡ Some f → f.from ≤ slot → Some f ≡ found_at xs slot
at_begun slot xs f o is begun = sym (found_next slot xs o ∙ rw (is, le_leb f.from slot begun) refl)

pub at_to_come : (slot : ℕ) (xs : List FaultParts) (f : FaultParts) → AreInOrder xs → next_at xs slot ≡ Some f → slot < f.from → None ≡ found_at xs slot
at_to_come slot xs f o is less = sym (found_next slot xs o ∙ rw (is, gt_leb f.from slot less) refl)

-- ---- whether a fault is free

-- where all end before a slot, none has a later one
none_from : (from slot : ℕ) (xs : List FaultParts) → next_at xs from ≡ None → from ≤ slot → found_at xs slot ≡ None
none_from from slot [] none le = refl
none_from from slot (x ∷ xs) none le = elim (cases_Bool (nat_le from x.to)) [
  | inl lasts ↦ absurd (some_none x (rw lasts at none))
  | inr over ↦
      let ended : nat_le slot x.to ≡ false = gt_leb slot x.to (omega (arith, leb_gt from x.to over)) in
      rw (and_false (nat_le x.from slot) (nat_le slot x.to) ended) (none_from from slot xs (rw over at none) le)
]
  where
    some_none : (y : FaultParts) → Some y ≡ None → ⊥
    some_none y h = cc

    and_false : (a b : Bool) → b ≡ false → (a && b) ≡ false
    and_false true b h = h
    and_false false b h = refl

pub free_at_end : (xs : List FaultParts) (fault : FaultParts) → next_at xs fault.from ≡ None → IsFree xs fault
free_at_end xs fault none slot spanned =
    none_from fault.from slot xs none (leb-true fault.from slot (and_parts (nat_le fault.from slot) (nat_le slot fault.to) spanned).0)

-- between the end of what is before and the beginning of the next no slot is had
none_between : (from slot : ℕ) (next : FaultParts) (xs : List FaultParts) → AreInOrder xs → next_at xs from ≡ Some next → from ≤ slot → slot < next.from
    → found_at xs slot ≡ None
none_between from slot next [] o is le less = refl
none_between from slot next (x ∷ xs) o is le less = elim (cases_Bool (nat_le from x.to)) [
  | inl lasts ↦
      let same : x ≡ next = some_same x next (rw lasts at is) in
      let to_come : nat_le x.from slot ≡ false = gt_leb x.from slot (rw same less) in
      let past : slot ≤ x.to = omega (arith, first_ordered x xs o, ap (λ (f : FaultParts). f.from) same) in
      rw to_come (none_spans slot xs (past_all slot x.to xs past (later x xs o)))
  | inr over ↦
      let ended : nat_le slot x.to ≡ false = gt_leb slot x.to (omega (arith, leb_gt from x.to over)) in
      rw (and_false (nat_le x.from slot) (nat_le slot x.to) ended) (none_between from slot next xs (rest x xs o) (rw over at is) le less)
]
  where
    some_same : (y z : FaultParts) → Some y ≡ Some z → y ≡ z
    some_same y z h = cc

    and_false : (a b : Bool) → b ≡ false → (a && b) ≡ false
    and_false true b h = h
    and_false false b h = refl

pub free_before : (xs : List FaultParts) (fault next : FaultParts) → AreInOrder xs → next_at xs fault.from ≡ Some next → fault.to < next.from → IsFree xs fault
free_before xs fault next o is less slot spanned =
    let parts = and_parts (nat_le fault.from slot) (nat_le slot fault.to) spanned in
    let upper = leb-true slot fault.to parts.1 in
    none_between fault.from slot next xs o is (leb-true fault.from slot parts.0) (omega arith)

-- the next fault has the slots that it spans
next_has : (from slot : ℕ) (next : FaultParts) (xs : List FaultParts) → next_at xs from ≡ Some next → spans slot next ≡ true → IsSome (found_at xs slot)
next_has from slot next [] is spanned = absurd (none_some next is)
  where
    none_some : (y : FaultParts) → None ≡ Some y → ⊥
    none_some y h = cc
next_has from slot next (x ∷ xs) is spanned = elim (cases_Bool (spans slot x)) [
  | inl has ↦ rw has refl
  | inr lacks ↦ elim (cases_Bool (nat_le from x.to)) [
    | inl lasts ↦ absurd (false≢true (sym lacks ∙ ap (spans slot) (some_same x next (rw lasts at is)) ∙ spanned))
    | inr over ↦ rw lacks (next_has from slot next xs (rw over at is) spanned)
  ]
]
  where
    some_same : (y z : FaultParts) → Some y ≡ Some z → y ≡ z
    some_same y z h = cc

-- the next fault does not end before the slot
next_lasts : (from : ℕ) (next : FaultParts) (xs : List FaultParts) → next_at xs from ≡ Some next → from ≤ next.to
next_lasts from next [] is = absurd (none_some next is)
  where
    none_some : (y : FaultParts) → None ≡ Some y → ⊥
    none_some y h = cc
next_lasts from next (x ∷ xs) is = elim (cases_Bool (nat_le from x.to)) [
  | inl lasts ↦ rw (sym (some_same x next (rw lasts at is))) (leb-true from x.to lasts)
  | inr over ↦ next_lasts from next xs (rw over at is)
]
  where
    some_same : (y z : FaultParts) → Some y ≡ Some z → y ≡ z
    some_same y z h = cc

pub shared_with_next : (xs : List FaultParts) (fault next : FaultParts) → fault.from ≤ fault.to → next.from ≤ next.to → next_at xs fault.from ≡ Some next
    → next.from ≤ fault.to → HasShared xs fault
shared_with_next xs fault next ordered next_ordered is meets =
    let slot = max next.from fault.from in
    let lasts = next_lasts fault.from next xs is in
    let a : nat_le fault.from slot ≡ true = le_leb fault.from slot (omega arith) in
    let b : nat_le slot fault.to ≡ true = le_leb slot fault.to (omega arith) in
    let c : nat_le next.from slot ≡ true = le_leb next.from slot (omega arith) in
    let e : nat_le slot next.to ≡ true = le_leb slot next.to (omega arith) in
    record { slot = slot; spanned = rw (a, b) refl; found = next_has fault.from slot next xs is (rw (c, e) refl) }

-- ---- one more fault

-- a fault put before the first that does not end before it begins
put_in : FaultParts → List FaultParts → List FaultParts
put_in f [] = f ∷ []
put_in f (x ∷ xs) = if nat_le f.from x.to then f ∷ (x ∷ xs) else x ∷ put_in f xs

insert_is : (f : FaultParts) (xs : List FaultParts) → insert xs (place_at xs f.from) f ≡ put_in f xs
unfolding put_in
insert_is f [] = refl
insert_is f (x ∷ xs) = elim (cases_Bool (nat_le f.from x.to)) [
  | inl here ↦ rw here refl
  | inr on ↦
      let n = position_or_len (λ y. nat_le f.from y.to) xs in
      let e : 1 + n ≡ suc n = omega arith in
      rw (on, e) (ap (λ ys. x ∷ ys) (insert_is f xs))
]

All-put_in : (P : FaultParts → Type 0) (f : FaultParts) (xs : List FaultParts) → P f → All P xs → All P (put_in f xs)
unfolding put_in
All-put_in P f [] one all = All-cons P f [] one (All-nil P)
All-put_in P f (x ∷ xs) one all = elim (cases_Bool (nat_le f.from x.to)) [
  | inl here ↦ rw here (All-cons P f (x ∷ xs) one all)
  | inr on ↦ rw on (All-cons P x (put_in f xs) (All-head P x xs all) (All-put_in P f xs one (All-tail P x xs all)))
]

found_put_in : (slot : ℕ) (f : FaultParts) (xs : List FaultParts) → (IsTrue (spans slot f) → found_at xs slot ≡ None)
    → found_at (put_in f xs) slot ≡ (if spans slot f then Some f else found_at xs slot)
unfolding put_in
found_put_in slot f [] free = refl
found_put_in slot f (x ∷ xs) free = elim (cases_Bool (nat_le f.from x.to)) [
  | inl here ↦ rw here refl
  | inr on ↦ elim (cases_Bool (spans slot x)) [
    | inl has ↦ elim (cases_Bool (spans slot f)) [
      | inl both ↦ absurd (some_none x (rw has at (free both)))
      | inr alone ↦ rw (on, has, alone) refl
    ]
    | inr lacks ↦ rw (on, lacks) (found_put_in slot f xs (λ spanned. rw lacks at (free spanned)))
  ]
]
  where
    some_none : (y : FaultParts) → Some y ≡ None → ⊥
    some_none y h = cc

-- a free fault ends before the first begins that does not end before it
ends_before : (f x : FaultParts) (xs : List FaultParts) → f.from ≤ f.to → x.from ≤ x.to → IsFree (x ∷ xs) f → nat_le f.from x.to ≡ true → f.to < x.from
ends_before f x xs ordered x_ordered free lasts = elim (cases_lt f.to x.from) [
  | inl before ↦ before
  | inr meets ↦
      let slot = max x.from f.from in
      let le = leb-true f.from x.to lasts in
      let a : nat_le f.from slot ≡ true = le_leb f.from slot (omega arith) in
      let b : nat_le slot f.to ≡ true = le_leb slot f.to (omega arith) in
      let c : nat_le x.from slot ≡ true = le_leb x.from slot (omega arith) in
      let e : nat_le slot x.to ≡ true = le_leb slot x.to (omega arith) in
      let none = free slot (rw (a, b) refl) in
      absurd (some_none x (rw (c, e) at none))
]
  where
    some_none : (y : FaultParts) → Some y ≡ None → ⊥
    some_none y h = cc

free_rest : (f x : FaultParts) (xs : List FaultParts) → nat_le f.from x.to ≡ false → IsFree (x ∷ xs) f → IsFree xs f
free_rest f x xs over free slot spanned =
    let begun = leb-true f.from slot (and_parts (nat_le f.from slot) (nat_le slot f.to) spanned).0 in
    let ended : nat_le slot x.to ≡ false = gt_leb slot x.to (omega (arith, leb_gt f.from x.to over)) in
    rw (and_false (nat_le x.from slot) (nat_le slot x.to) ended) at (free slot spanned)
  where
    and_false : (a b : Bool) → b ≡ false → (a && b) ≡ false
    and_false true b h = h
    and_false false b h = refl

apart_put_in : (f : FaultParts) (xs : List FaultParts) → f.from ≤ f.to → AreInOrder xs → IsFree xs f → AllPairs (λ (a b : FaultParts). a.to < b.from) (put_in f xs)
unfolding put_in
apart_put_in f [] ordered o free = AllPairs-cons (λ (a b : FaultParts). a.to < b.from) f [] (All-nil (λ (b : FaultParts). f.to < b.from)) o.apart
apart_put_in f (x ∷ xs) ordered o free = elim (cases_Bool (nat_le f.from x.to)) [
  | inl here ↦
      let before = ends_before f x xs ordered (first_ordered x xs o) free here in
      let last = first_ordered x xs o in
      rw here (AllPairs-cons (λ (a b : FaultParts). a.to < b.from) f (x ∷ xs)
      (All-cons (λ (b : FaultParts). f.to < b.from) x xs before (λ k d below. let h = later x xs o k d below in omega arith)) o.apart)
  | inr on ↦
      rw on (AllPairs-cons (λ (a b : FaultParts). a.to < b.from) x (put_in f xs)
      (All-put_in (λ (b : FaultParts). x.to < b.from) f xs (leb_gt f.from x.to on) (later x xs o))
      (apart_put_in f xs ordered (rest x xs o) (free_rest f x xs on free)))
]

pub in_order_more : (f : FaultParts) (xs : List FaultParts) → f.from ≤ f.to → AreInOrder xs → IsFree xs f → AreInOrder (insert xs (place_at xs f.from) f)
in_order_more f xs ordered o free = rw (insert_is f xs) (record {
  ordered = All-put_in (λ (fault : FaultParts). fault.from ≤ fault.to) f xs ordered o.ordered;
  apart = apart_put_in f xs ordered o free;
})

pub found_more : (f : FaultParts) (xs : List FaultParts) → IsFree xs f → (slot : ℕ)
    → found_at (insert xs (place_at xs f.from) f) slot ≡ (if spans slot f then Some f else found_at xs slot)
found_more f xs free slot = rw (insert_is f xs) (found_put_in slot f xs (free slot))
