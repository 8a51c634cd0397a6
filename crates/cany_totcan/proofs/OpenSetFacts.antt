-- The set of the open messages has a place for each of them; and what is left without the oldest.
use Rattle.std.proofs.Common.{◌≡◌, ℕ, zero, suc, ◌-◌, ◌<◌, ◌≤◌, true, inl, inr, List, [], ◌∷◌, drop, length, replicate, Option, Some, None, refl, ap, subst, sym, ◌∙◌, arith}
use Rattle.std.specs.Prelude.{remove, slice_get, slice_index_or, option_copied, IsSome, OnSome, MatchOption}
use Rattle.std.specs.List.{HoldsAt, list_any}
use denote.Ref.{Bor}
use Rattle.std.proofs.lemmas.Bool.{cases_lt, false≢true}
use Rattle.cany_base.specs.declared.message.MsgKey.{MsgKey}
use Rattle.cany_base.specs.Nodes.{nobody}
use Rattle.cany_totcan.specs.declared.queue.Placed.{Placed}
use Rattle.cany_totcan.specs.MessageSet.{MessageSetParts}
use Rattle.cany_totcan.specs.Queue.{IsIndexOf, IsKept, IsSetOf, is_at}
use Rattle.cany_totcan.proofs.MessageSetFacts.{has_no_message, none_past}
use Rattle.cany_totcan.proofs.QueueFacts.{IsTakenOut, kept-remove}

pub there_below : (key : MsgKey) (items : List Placed) (set : MessageSetParts) → IsSetOf items set → list_any (is_at key) items ≡ true
    → key.seq < length set.origins
there_below key items set is there = elim (cases_lt key.seq (length set.origins)) [
  | inl below ↦ below
  | inr past ↦ absurd (false≢true (sym (none_past set key.seq key.origin (omega (arith, past))) ∙ is key.seq key.origin ∙ there))
]

-- none are open
pub kept-none : (numbers room capacity : ℕ) (set : MessageSetParts) → set.origins ≡ replicate numbers nobody → room ≤ capacity → IsKept [] 0 room capacity set
kept-none numbers room capacity set is reserved = record {
  once = tt;
  ascending = tt;
  there = omega arith;
  in_room = omega arith;
  reserved = reserved;
  is_set = has_no_message numbers set is;
}

-- ---- without the oldest

pub front_removed : {X : Type 0} (items : List X) → remove items 0 ≡ drop 1 items
front_removed [] = refl
front_removed (x ∷ items) = refl

pub kept-first : (key : MsgKey) (items : List Placed) (done room capacity : ℕ) (old new : MessageSetParts) → IsKept items done room capacity old
    → IsIndexOf key 0 items → IsTakenOut key old new → IsKept (drop 1 items) (done - 1) room capacity new
kept-first key items done room capacity old new kept at taken =
    subst (λ (xs : List Placed). IsKept xs (done - 1) room capacity new) (front_removed items)
    (kept-remove key 0 items done (done - 1) room capacity old new kept at (omega (arith, kept.there, at.within)) taken)

-- ---- the ring

pub removed_from : {X : Type 0} (r : Option X) (A : Type 0) → OnSome r A → IsSome r → A
removed_from None A on some = absurd (false≢true some)
removed_from (Some x) A on some = on

module _ {T : Type 0} where
  at_index : (items : List T) (i : ℕ) (x : T) → i < length items → x ≡ slice_index_or items i x → Some x ≡ slice_get items i
  at_index [] i x within is = absurd (omega (arith, within))
  at_index (y ∷ items) zero x within is = ap (λ z. Some z) is
  at_index (y ∷ items) (suc i) x within is = at_index items i x (omega (arith, within)) is

  past_index : (items : List T) (i : ℕ) → length items ≤ i → None ≡ slice_get items i
  past_index [] i past = refl
  past_index (y ∷ items) zero past = absurd (omega (arith, past))
  past_index (y ∷ items) (suc i) past = past_index items i (omega (arith, past))

  pub item_is : (items : List T) (i : ℕ) (r : Option (Bor T))
      → MatchOption r (length items ≤ i) (λ x. (i < length items) × HoldsAt (λ y. x.now ≡ y) items i) → option_copied r ≡ slice_get items i
  item_is items i None past = past_index items i past
  item_is items i (Some x) at = at_index items i x.now at.0 (at.1 x.now)
