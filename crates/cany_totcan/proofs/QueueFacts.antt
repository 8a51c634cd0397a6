-- Facts about the open messages of a node: which are there once a message was removed or placed,
-- that each stands there once, and that there is room for the messages of a scenario.
use Rattle.std.proofs.Common.{◌≡◌, ℕ, zero, suc, ◌+◌, ◌-◌, ◌<◌, ◌≤◌, ◌==◌, ◌&&◌, ◌||◌, inl, inr, Bool, true, false, not, List, [], ◌∷◌, ◌++◌, count_by, filter, length, take, drop, Option, Some, None, refl, ap, sym, ◌∙◌, subst, arith}
use Rattle.std.specs.Prelude.{cond, min, IfSome, IfNone, is_some, remove}
use Rattle.std.specs.List.{AllByRecursion, list_any}
use Rattle.std.proofs.Math.Seq.{take-append_seam}
use Rattle.std.proofs.lemmas.Bool.{cases_Bool, eq-eqb, eqb-true, and_from, and_parts, false≢true, false_from_ne_true, or_from, or_parts}
use Rattle.std.proofs.lemmas.Bool.Decides.{nat_tests}
use Rattle.std.proofs.lemmas.List.{append_assoc, length-append, length-take, take-append-drop}
use Rattle.std.proofs.lemmas.List.Edits.{length-remove}
use Rattle.std.proofs.lemmas.List.Elements.{filter-append}
use Rattle.std.proofs.lemmas.List.Folds.{list_any-append, list_any_at}
use Rattle.std.proofs.lemmas.List.Sums.{count_by-le-length, length-filter}
use Rattle.std.proofs.lemmas.Map.Views.{any-filter_same}
use Rattle.cany_base.specs.declared.message.MsgKey.{MsgKey}
use Rattle.cany_base.specs.declared.message.Service.{Service}
use Rattle.cany_base.specs.Frame.{FrameParts}
use Rattle.cany_base.specs.Scenario.{ScenarioParts}
use Rattle.cany_model.specs.Rules.Messages.{Message, is_service, message_key, messages_of}
use Rattle.cany_model.specs.Rules.Notices.{NamesMessage}
use Rattle.cany_model.specs.Rules.Rooms.{sends_by}
use Rattle.cany_model.specs.Rules.Totcan.{message_in}
use Rattle.cany_model.proofs.Among.{Among, Among-from_Contains, Among-weaker, Each-append, Each-filter, Each-weaker, count-cons, count-no, count-yes}
use Rattle.cany_model.proofs.Rules.Services.MessageKeys.{is_service-from}
use Rattle.cany_model.proofs.Rules.RoomFacts.{count_messages, pigeonhole}
use Rattle.cany_totcan.specs.declared.queue.Placed.{Placed}
use Rattle.cany_totcan.specs.MessageSet.{MessageSetParts, has_message}
use Rattle.cany_totcan.specs.Queue.{AreAscending, AreOnce, IsIndexOf, IsKept, IsSetOf, OpenParts, is_at, is_removed, moved, without_key}

-- ---- keys

-- whether the two keys are of one message
abbrev pub same_key : MsgKey → MsgKey → Bool
same_key a b = a.seq == b.seq && a.origin == b.origin

pub same_key_self : (key : MsgKey) → same_key key key ≡ true
same_key_self key = and_from (key.seq == key.seq) (key.origin == key.origin) (eq-eqb key.seq key.seq refl) (eq-eqb key.origin key.origin refl)

pub same_key-true : (a b : MsgKey) → same_key a b ≡ true → a ≡ b
same_key-true a b h =
    let parts = and_parts (a.seq == b.seq) (a.origin == b.origin) h in
    λ k. record { origin = eqb-true a.origin b.origin parts.1 k; seq = eqb-true a.seq b.seq parts.0 k }

-- the message that stands here has this key
pub is_at-true : (key : MsgKey) (x : Placed) → is_at key x ≡ true → key ≡ message_in x.frame
is_at-true key x here = same_key-true key (message_in x.frame) here

-- keys that differ do so the other way round
apart_both : (a b : MsgKey) → same_key a b ≡ false → same_key b a ≡ false
apart_both a b apart = false_from_ne_true (same_key b a) (λ same.
    false≢true (sym apart ∙ ap (λ k. same_key a k) (same_key-true b a same) ∙ same_key_self a))

-- keys are compared the same both ways
same_key_swap : (a b : MsgKey) → same_key a b ≡ same_key b a
same_key_swap a b = elim (cases_Bool (same_key a b)) [
  | inl same ↦ ap (λ k. same_key k b) (same_key-true a b same) ∙ ap (λ k. same_key b k) (sym (same_key-true a b same))
  | inr apart ↦ apart ∙ sym (apart_both a b apart)
]

-- ---- which messages are there

-- without one message the others are there as before
pub any-without : (key other : MsgKey) (items : List Placed)
    → list_any (is_at key) (without_key other items) ≡ (not (same_key other key) && list_any (is_at key) items)
any-without key other items =
    any-filter_same (is_at key) (λ x. not (is_at other x)) (not (same_key other key))
    (λ x here. ap (λ k. not (same_key other k)) (sym (is_at-true key x here))) items

pub any-without_self : (key : MsgKey) (items : List Placed) → list_any (is_at key) (without_key key items) ≡ false
any-without_self key items = any-without key key items ∙ ap (λ b. not b && list_any (is_at key) items) (same_key_self key)

pub any-without_other : (key other : MsgKey) (items : List Placed) → same_key other key ≡ false
    → list_any (is_at key) (without_key other items) ≡ list_any (is_at key) items
any-without_other key other items apart = any-without key other items ∙ ap (λ b. not b && list_any (is_at key) items) apart

or_swap : (a b : Bool) → (a || b) ≡ (b || a)
or_swap true true = refl
or_swap true false = refl
or_swap false true = refl
or_swap false false = refl

or_same : (c a b : Bool) → (c ≡ false → a ≡ b) → (c || a) ≡ (c || b)
or_same true a b same = refl
or_same false a b same = same refl

-- with one more at the end
pub any-append_one : (key : MsgKey) (items : List Placed) (x : Placed)
    → list_any (is_at key) (items ++ x ∷ []) ≡ (list_any (is_at key) items || is_at key x)
any-append_one key items x =
    list_any-append (is_at key) items (x ∷ []) ∙ ap (λ b. list_any (is_at key) items || b) (or_swap (is_at key x) false)

-- a message that was placed is there, and each other as before
pub any-moved : (key : MsgKey) (f : FrameParts) (slot : ℕ) (v : OpenParts)
    → list_any (is_at key) (moved f slot v).items ≡ (same_key key (message_in f) || list_any (is_at key) v.items)
any-moved key f slot v =
    let left : List Placed = without_key (message_in f) v.items in
    any-append_one key left (record { frame = f; place = slot })
    ∙ or_swap (list_any (is_at key) left) (same_key key (message_in f))
    ∙ or_same (same_key key (message_in f)) (list_any (is_at key) left) (list_any (is_at key) v.items)
    (λ other. any-without_other key (message_in f) v.items (apart_both key (message_in f) other))

-- where the message is not there, nothing is removed
pub without-absent : (key : MsgKey) (items : List Placed) → list_any (is_at key) items ≡ false → without_key key items ≡ items
without-absent key [] none = refl
without-absent key (x ∷ items) none =
    let parts = or_parts (is_at key x) (list_any (is_at key) items) none in
    rw parts.0 (ap (λ rest. x ∷ rest) (without-absent key items parts.1))

-- ---- the set of those that are there

-- the key is taken out of the set
abbrev pub IsTakenOut : MsgKey → MessageSetParts → MessageSetParts → Type 0
IsTakenOut key old new = (seq origin : ℕ) → has_message new seq origin ≡ (not (seq == key.seq && origin == key.origin) && has_message old seq origin)

-- the key is put into the set
abbrev pub IsPutIn : MsgKey → MessageSetParts → MessageSetParts → Type 0
IsPutIn key old new = (seq origin : ℕ) → has_message new seq origin ≡ (seq == key.seq && origin == key.origin || has_message old seq origin)

set-without : (key : MsgKey) (items : List Placed) (old new : MessageSetParts) → IsSetOf items old → IsTakenOut key old new → IsSetOf (without_key key items) new
set-without key items old new is less = λ seq origin.
    let other : MsgKey = record { origin = origin; seq = seq } in
    less seq origin
    ∙ ap (λ b. not (same_key other key) && b) (is seq origin)
    ∙ ap (λ b. not b && list_any (is_at other) items) (same_key_swap other key)
    ∙ sym (any-without other key items)

set-with : (f : FrameParts) (slot : ℕ) (items : List Placed) (old new : MessageSetParts) → IsSetOf items old → IsPutIn (message_in f) old new
    → IsSetOf (items ++ record { frame = f; place = slot } ∷ []) new
set-with f slot items old new is more = λ seq origin.
    let key : MsgKey = record { origin = origin; seq = seq } in
    more seq origin
    ∙ ap (λ b. same_key key (message_in f) || b) (is seq origin)
    ∙ or_swap (same_key key (message_in f)) (list_any (is_at key) items)
    ∙ sym (any-append_one key items (record { frame = f; place = slot }))

-- ---- each stands there once

none-filter : {X : Type 0} (test p : X → Bool) (xs : List X) → list_any test xs ≡ false → list_any test (filter p xs) ≡ false
none-filter test p [] none = refl
none-filter test p (x ∷ xs) none =
    let parts = or_parts (test x) (list_any test xs) none in
    elim (cases_Bool (p x)) [
      | inl kept ↦ rw kept (or_from (test x) (list_any test (filter p xs)) parts.0 (none-filter test p xs parts.1))
      | inr gone ↦ rw gone (none-filter test p xs parts.1)
    ]

pub once-filter : (p : Placed → Bool) (items : List Placed) → AreOnce items → AreOnce (filter p items)
once-filter p [] once = tt
once-filter p (x ∷ items) once = elim (cases_Bool (p x)) [
  | inl kept ↦ rw kept (none-filter (is_at (message_in x.frame)) p items once.0, once-filter p items once.1)
  | inr gone ↦ rw gone (once-filter p items once.1)
]

pub once-without : (key : MsgKey) (items : List Placed) → AreOnce items → AreOnce (without_key key items)
once-without key items once = once-filter (λ x. not (is_at key x)) items once

pub once-append_one : (items : List Placed) (x : Placed) → AreOnce items → list_any (is_at (message_in x.frame)) items ≡ false → AreOnce (items ++ x ∷ [])
once-append_one [] x once none = (refl, tt)
once-append_one (y ∷ items) x once none =
    let parts = or_parts (is_at (message_in x.frame) y) (list_any (is_at (message_in x.frame)) items) none in
    let other : is_at (message_in y.frame) x ≡ false = apart_both (message_in x.frame) (message_in y.frame) parts.0 in
    let rest : list_any (is_at (message_in y.frame)) (items ++ x ∷ []) ≡ false =
    any-append_one (message_in y.frame) items x ∙ or_from (list_any (is_at (message_in y.frame)) items) (is_at (message_in y.frame) x) once.0 other in
    (rest, once-append_one items x once.1 parts.1)

pub once-moved : (f : FrameParts) (slot : ℕ) (v : OpenParts) → AreOnce v.items → AreOnce (moved f slot v).items
once-moved f slot v once =
    once-append_one (without_key (message_in f) v.items) (record { frame = f; place = slot })
    (once-without (message_in f) v.items once) (any-without_self (message_in f) v.items)

-- a message that stands first does not stand among the others
once_here : (key : MsgKey) (x : Placed) (items : List Placed) → AreOnce (x ∷ items) → is_at key x ≡ true → list_any (is_at key) items ≡ false
once_here key x items once here = ap (λ k. list_any (is_at k) items) (is_at-true key x here) ∙ once.0

-- ---- in the order of their places

pub ascending-filter : (p : Placed → Bool) (items : List Placed) → AreAscending items → AreAscending (filter p items)
ascending-filter p [] up = tt
ascending-filter p (x ∷ items) up = elim (cases_Bool (p x)) [
  | inl kept ↦ rw kept (Each-filter (λ y. x.place < y.place) p items up.0, ascending-filter p items up.1)
  | inr gone ↦ rw gone (ascending-filter p items up.1)
]

pub ascending-append_one : (items : List Placed) (x : Placed) → AreAscending items → AllByRecursion (λ y. y.place < x.place) items → AreAscending (items ++ x ∷ [])
ascending-append_one [] x up last = (tt, tt)
ascending-append_one (y ∷ items) x up last =
    (Each-append (λ z. y.place < z.place) items (x ∷ []) up.0 (last.0, tt), ascending-append_one items x up.1 last.1)

-- ---- how many there are

pub length-without-le : (key : MsgKey) (items : List Placed) → length (without_key key items) ≤ length items
length-without-le key items =
    let p : Placed → Bool = λ x. not (is_at key x) in
    omega (arith, length-filter p items, count_by-le-length p items)

-- a message that is there is one of them
pub length-without-one : (key : MsgKey) (items : List Placed) → AreOnce items → list_any (is_at key) items ≡ true
    → length (without_key key items) + 1 ≡ length items
length-without-one key [] once there = absurd (false≢true there)
length-without-one key (x ∷ items) once there = elim (cases_Bool (is_at key x)) [
  | inl here ↦
      let same : without_key key items ≡ items = without-absent key items (once_here key x items once here) in
      rw here (omega (arith, ap length same))
  | inr other ↦
      let rest : list_any (is_at key) items ≡ true = rw other at there in
      rw other (omega (arith, length-without-one key items once.1 rest))
]

-- ---- a message at an index

-- the index among the others
pub rest_at : (key : MsgKey) (x : Placed) (items : List Placed) (index : ℕ) → IsIndexOf key (suc index) (x ∷ items) → IsIndexOf key index items
rest_at key x items index at = record { within = omega (arith, at.within); is = λ d. at.is d }

pub there_at : (key : MsgKey) (items : List Placed) (index : ℕ) → IsIndexOf key index items → list_any (is_at key) items ≡ true
there_at key [] index at = absurd (omega (arith, at.within))
there_at key (x ∷ items) index at = list_any_at (is_at key) (x ∷ items) index x at.within (at.is x)

-- a message that stands later does not stand first
pub not_first : (key : MsgKey) (x : Placed) (items : List Placed) (index : ℕ) → AreOnce (x ∷ items) → IsIndexOf key (suc index) (x ∷ items)
    → is_at key x ≡ false
not_first key x items index once at = false_from_ne_true (is_at key x) (λ here.
    false≢true (sym (once_here key x items once here) ∙ there_at key items index (rest_at key x items index at)))

-- without the message is without what stands at its index
pub removed_at : (key : MsgKey) (items : List Placed) (index : ℕ) → AreOnce items → IsIndexOf key index items → without_key key items ≡ remove items index
removed_at key [] index once at = absurd (omega (arith, at.within))
removed_at key (x ∷ items) zero once at =
    let here : is_at key x ≡ true = at.is x in
    rw here (without-absent key items (once_here key x items once here))
removed_at key (x ∷ items) (suc index) once at =
    let other : is_at key x ≡ false = not_first key x items index once at in
    rw other (ap (λ rest. x ∷ rest) (removed_at key items index once.1 (rest_at key x items index at)))

-- of the first `done`, where the message is not there
done_absent : (key : MsgKey) (items : List Placed) (done : ℕ) → list_any (is_at key) items ≡ false → done ≤ length items
    → length (without_key key (take done items)) ≡ done
done_absent key items done none within =
    let parts = or_parts (list_any (is_at key) (take done items)) (list_any (is_at key) (drop done items))
    (sym (list_any-append (is_at key) (take done items) (drop done items)) ∙ ap (list_any (is_at key)) (take-append-drop done items) ∙ none) in
    omega (arith, ap length (without-absent key (take done items) parts.0), length-take done items)

-- where it is one of those
done_before : (key : MsgKey) (items : List Placed) (index done : ℕ) → AreOnce items → IsIndexOf key index items → index < done → done ≤ length items
    → length (without_key key (take done items)) + 1 ≡ done
done_before key [] index done once at before within = absurd (omega (arith, at.within))
done_before key (x ∷ items) index zero once at before within = absurd (omega arith)
done_before key (x ∷ items) zero (suc done) once at before within =
    let here : is_at key x ≡ true = at.is x in
    rw here (omega (arith, done_absent key items done (once_here key x items once here) (omega arith)))
done_before key (x ∷ items) (suc index) (suc done) once at before within =
    let other : is_at key x ≡ false = not_first key x items index once at in
    rw other (omega (arith, done_before key items index done once.1 (rest_at key x items index at) (omega arith) (omega arith)))

-- where it stands after those
done_after : (key : MsgKey) (items : List Placed) (index done : ℕ) → AreOnce items → IsIndexOf key index items → done ≤ index
    → length (without_key key (take done items)) ≡ done
done_after key items index zero once at after = refl
done_after key [] index (suc done) once at after = absurd (omega (arith, at.within))
done_after key (x ∷ items) zero (suc done) once at after = absurd (omega arith)
done_after key (x ∷ items) (suc index) (suc done) once at after =
    let other : is_at key x ≡ false = not_first key x items index once at in
    rw other (omega (arith, done_after key items index done once.1 (rest_at key x items index at) (omega arith)))

-- ---- the code

-- whether an index was found tells whether the message is there
pub found_any : (key : MsgKey) (items : List Placed) (r : Option ℕ) → IfSome r (λ index. IsIndexOf key index items)
    → IfNone r (list_any (is_at key) items ≡ false) → is_some r ≡ list_any (is_at key) items
found_any key items None found absent = sym absent
found_any key items (Some index) found absent = sym (there_at key items index found)

pub parts_absent : (key : MsgKey) (v : OpenParts) → v.done ≤ length v.items → list_any (is_at key) v.items ≡ false → v ≡ is_removed key v
parts_absent key v there none = λ k. record {
  items = sym (without-absent key v.items none) k;
  done = sym (done_absent key v.items v.done none there) k;
  room = v.room;
  numbers = v.numbers;
}

-- what is left without the message at an index, where it is done, and where it is not
module _ (key : MsgKey) (index : ℕ) (v : OpenParts) (items : List Placed) (once : AreOnce v.items) (at : IsIndexOf key index v.items)
    (is : items ≡ remove v.items index) (numbers : ℕ) (same : numbers ≡ v.numbers) where
  pub parts_before : index < v.done → v.done ≤ length v.items → record v { items = items; done = v.done - 1; numbers = numbers } ≡ is_removed key v
  parts_before before there =
      let left : v.done - 1 ≡ length (without_key key (take v.done v.items)) =
      omega (arith, done_before key v.items index v.done once at before there) in
      λ k. record { items = (is ∙ sym (removed_at key v.items index once at)) k; done = left k; room = v.room; numbers = same k }

  pub parts_after : v.done ≤ index → record v { items = items; numbers = numbers } ≡ is_removed key v
  parts_after after = λ k. record {
    items = (is ∙ sym (removed_at key v.items index once at)) k;
    done = sym (done_after key v.items index v.done once at after) k;
    room = v.room;
    numbers = same k;
  }

pub kept-remove : (key : MsgKey) (index : ℕ) (items : List Placed) (done left room capacity : ℕ) (old new : MessageSetParts) → IsKept items done room capacity old
    → IsIndexOf key index items → left < length items → IsTakenOut key old new → IsKept (remove items index) left room capacity new
kept-remove key index items done left room capacity old new kept at fewer less = record {
  once = subst AreOnce (removed_at key items index kept.once at) (once-without key items kept.once);
  ascending = subst AreAscending (removed_at key items index kept.once at) (ascending-filter (λ x. not (is_at key x)) items kept.ascending);
  there = omega (arith, length-remove items index at.within);
  in_room = omega (arith, length-remove items index at.within, kept.in_room);
  reserved = kept.reserved;
  is_set = subst (λ xs. IsSetOf xs new) (removed_at key items index kept.once at) (set-without key items old new kept.is_set less);
}

kept-append_one : (items : List Placed) (f : FrameParts) (slot done room capacity : ℕ) (old new : MessageSetParts) → IsKept items done room capacity old
    → list_any (is_at (message_in f)) items ≡ false → AllByRecursion (λ y. y.place < slot) items → length items < room → IsPutIn (message_in f) old new
    → IsKept (items ++ record { frame = f; place = slot } ∷ []) done room capacity new
kept-append_one items f slot done room capacity old new kept none later spare more = record {
  once = once-append_one items (record { frame = f; place = slot }) kept.once none;
  ascending = ascending-append_one items (record { frame = f; place = slot }) kept.ascending later;
  there = omega (arith, length-append items (record { frame = f; place = slot } ∷ []), kept.there);
  in_room = omega (arith, length-append items (record { frame = f; place = slot } ∷ []));
  reserved = kept.reserved;
  is_set = set-with f slot items old new kept.is_set more;
}

-- a message is placed after it was removed from the messages of v
pub kept-place : (f : FrameParts) (slot : ℕ) (v : OpenParts) (items : List Placed) (done room capacity : ℕ) (old new : MessageSetParts)
    → IsKept items done room capacity old
    → record { items = items; done = done; room = room; numbers = length old.origins } ≡ is_removed (message_in f) v
    → length (without_key (message_in f) v.items) < v.room → AllByRecursion (λ x. x.place < slot) v.items → IsPutIn (message_in f) old new
    → IsKept (items ++ record { frame = f; place = slot } ∷ []) done room capacity new
kept-place f slot v items done room capacity old new kept is spare later more =
    let left : items ≡ without_key (message_in f) v.items = ap (λ (w : OpenParts). w.items) is in
    let same : room ≡ v.room = ap (λ (w : OpenParts). w.room) is in
    kept-append_one items f slot done room capacity old new kept
    (ap (list_any (is_at (message_in f))) left ∙ any-without_self (message_in f) v.items)
    (subst (AllByRecursion (λ x. x.place < slot)) (sym left) (Each-filter (λ x. x.place < slot) (λ x. not (is_at (message_in f) x)) v.items later))
    (omega (arith, ap length left)) more

-- ---- those that are done

-- of the messages that are left, those that were done before are the first
pub take-without : (key : MsgKey) (done : ℕ) (items : List Placed) (later : List Placed)
    → take (length (without_key key (take done items))) (without_key key items ++ later) ≡ without_key key (take done items)
take-without key done items later =
    let p : Placed → Bool = λ x. not (is_at key x) in
    let parts : without_key key items ≡ without_key key (take done items) ++ without_key key (drop done items) =
    ap (filter p) (sym (take-append-drop done items)) ∙ filter-append p (take done items) (drop done items) in
    ap (λ xs. take (length (without_key key (take done items))) (xs ++ later)) parts
    ∙ ap (take (length (without_key key (take done items)))) (append_assoc (without_key key (take done items)) (without_key key (drop done items)) later)
    ∙ take-append_seam (without_key key (take done items)) (without_key key (drop done items) ++ later)

pub done-moved : (f : FrameParts) (slot : ℕ) (v : OpenParts)
    → take (moved f slot v).done (moved f slot v).items ≡ without_key (message_in f) (take v.done v.items)
done-moved f slot v = take-without (message_in f) v.done v.items (record { frame = f; place = slot } ∷ [])

-- what is true of each message is true of each that is left, and these are others
pub each-without : (P : Placed → Type 0) (key : MsgKey) (items : List Placed) → AllByRecursion P items
    → AllByRecursion (λ x. P x × (is_at key x ≡ false)) (without_key key items)
each-without P key [] each = tt
each-without P key (x ∷ items) each = elim (cases_Bool (is_at key x)) [
  | inl here ↦ rw here (each-without P key items each.1)
  | inr other ↦ rw other ((each.0, other), each-without P key items each.1)
]

-- ---- room

-- the messages are of the scenario, by this service
abbrev pub AreNamed : ScenarioParts → Service → List Placed → Type 0
AreNamed scenario by items = AllByRecursion (λ x. NamesMessage scenario by x.frame) items

pub named-without : (scenario : ScenarioParts) (by : Service) (key : MsgKey) (items : List Placed) → AreNamed scenario by items
    → AreNamed scenario by (without_key key items)
named-without scenario by key items named =
    Each-weaker (λ x. NamesMessage scenario by x.frame × (is_at key x ≡ false)) (λ x. NamesMessage scenario by x.frame) (λ x h. h.0) (without_key key items)
    (each-without (λ x. NamesMessage scenario by x.frame) key items named)

pub named-moved : (scenario : ScenarioParts) (by : Service) (f : FrameParts) (slot : ℕ) (v : OpenParts) → NamesMessage scenario by f
    → AreNamed scenario by v.items → AreNamed scenario by (moved f slot v).items
named-moved scenario by f slot v this named =
    Each-append (λ x. NamesMessage scenario by x.frame) (without_key (message_in f) v.items) (record { frame = f; place = slot } ∷ [])
    (named-without scenario by (message_in f) v.items named) (this, tt)

none_counted : {X : Type 0} (p : X → Bool) (xs : List X) → list_any p xs ≡ false → count_by p xs ≡ 0
none_counted p [] none = refl
none_counted p (x ∷ xs) none =
    let parts = or_parts (p x) (list_any p xs) none in
    count-no p x xs parts.0 ∙ none_counted p xs parts.1

all_counted : {X : Type 0} (xs : List X) → count_by (λ x. true) xs ≡ length xs
all_counted [] = refl
all_counted (x ∷ xs) = omega (arith, count-cons (λ y. true) x xs, all_counted xs)

-- a message stands there once at most
at_most_once : (key : MsgKey) (items : List Placed) → AreOnce items → count_by (is_at key) items ≤ 1
at_most_once key [] once = omega arith
at_most_once key (x ∷ items) once = elim (cases_Bool (is_at key x)) [
  | inl here ↦ omega (arith, count-yes (is_at key) x items here, none_counted (is_at key) items (once_here key x items once here))
  | inr other ↦ omega (arith, count-no (is_at key) x items other, at_most_once key items once.1)
]

-- whether a message of the service stands here
abbrev is_here : Service → Message → Placed → Bool
is_here by m x = is_service by m.service && is_at (message_key m) x

none_here : (items : List Placed) → count_by (λ x. false) items ≤ 0
none_here [] = omega arith
none_here (x ∷ items) = omega (arith, none_here items, count-cons (λ (y : Placed). false) x items)

-- it does so once at most, and one of another service never
here_once : (by : Service) (m : Message) (items : List Placed) → AreOnce items
    → count_by (is_here by m) items ≤ cond (is_service by m.service) 1 0
here_once by m items once = elim (is_service by m.service) as
    (λ b. count_by (λ x. b && is_at (message_key m) x) items ≤ cond b 1 0) [
      | true ↦ at_most_once (message_key m) items once
      | false ↦ none_here items
    ]

-- one of the messages of the scenario stands here
named_here : (scenario : ScenarioParts) (by : Service) (x : Placed) → NamesMessage scenario by x.frame
    → Among (λ m. is_here by m x ≡ true) (messages_of scenario.sends)
named_here scenario by x named =
    let at : is_at (message_key named.message) x ≡ true =
    and_from (named.message.seq == x.frame.number) (named.message.origin == x.frame.node)
    (eq-eqb named.message.seq x.frame.number named.number) (eq-eqb named.message.origin x.frame.node named.origin) in
    let here : is_here by named.message x ≡ true =
    and_from (is_service by named.message.service) (is_at (message_key named.message) x)
    (is_service-from by named.message.service (sym named.sent_by)) at in
    Among-weaker (λ m. m ≡ named.message) (λ m. is_here by m x ≡ true) (λ m same. ap (λ n. is_here by n x) same ∙ here)
    (messages_of scenario.sends) (Among-from_Contains (messages_of scenario.sends) named.message named.stands)

-- messages of a scenario by a service, each once, are no more than it has
pub few_named : (scenario : ScenarioParts) (by : Service) (items : List Placed) → AreNamed scenario by items → AreOnce items
    → length items ≤ sends_by scenario by
few_named scenario by items named once =
    omega (
      arith,
      all_counted items,
      count_messages by [] scenario.sends,
      pigeonhole (is_here by) (λ x. true) (λ m. is_service by m.service) items (messages_of scenario.sends)
          (Each-weaker (λ x. NamesMessage scenario by x.frame)
          (λ x. true ≡ true → Among (λ m. is_here by m x ≡ true) (messages_of scenario.sends))
          (λ x h counts. named_here scenario by x h) items named)
          (λ m. here_once by m items once),
    )

pub least : (a b room : ℕ) → room ≡ min a b → room ≤ a
least a b room is = grind (arith, nat_tests, is)

pub both_less : (n a b room : ℕ) → room ≡ min a b → n < a → n < b → n < room
both_less n a b room is less_a less_b = grind (arith, nat_tests, is, less_a, less_b)

pub both_le : (n a b room : ℕ) → room ≡ min a b → n ≤ a → n ≤ b → n ≤ room
both_le n a b room is le_a le_b = grind (arith, nat_tests, is, le_a, le_b)

-- and fewer, where one more of its messages is not among them
pub fewer_named : (scenario : ScenarioParts) (by : Service) (f : FrameParts) (items : List Placed) → NamesMessage scenario by f
    → AreNamed scenario by items → AreOnce items → list_any (is_at (message_in f)) items ≡ false → length items < sends_by scenario by
fewer_named scenario by f items this named once none =
    omega (arith, few_named scenario by (record { frame = f; place = 0 } ∷ items) (this, named) (none, once))

-- so a message of the scenario can be placed
pub room_to_place : (scenario : ScenarioParts) (by : Service) (f : FrameParts) (items : List Placed) → NamesMessage scenario by f
    → AreNamed scenario by items → AreOnce items → length (without_key (message_in f) items) < sends_by scenario by
room_to_place scenario by f items this named once =
    fewer_named scenario by f (without_key (message_in f) items) this (named-without scenario by (message_in f) items named)
    (once-without (message_in f) items once) (any-without_self (message_in f) items)
