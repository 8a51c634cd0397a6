-- The first fault that shares a slot with an earlier one.
use Rattle.std.proofs.Common.{◌≡◌, ℕ, zero, suc, ◌+◌, ◌<◌, ◌≤◌, ◌==◌, ◌||◌, Bool, true, false, List, [], ◌∷◌, max, min, length, Some, None, IsTrue, refl, sym, inl, inr, arith}
use Rattle.std.specs.Prelude.{nat_le, find, slice_get, take}
use Rattle.std.specs.List.{list_any, range_with_len}
use Rattle.std.specs.Option.{IsSomeAnd}
use Rattle.std.proofs.lemmas.Bool.{and_parts, cases_Bool, cases_lt, eq-eqb, eqb-true, false≢true, leb-true}
use Rattle.cany_media.specs.Overlaps.{do_share, first_overlap, is_taken, is_taken_at}
use Rattle.cany_media.specs.Plan.{FaultParts, covers, spans}
use Rattle.cany_media.proofs.StretchFacts.{le_leb}

-- two faults of one line, and a slot of both
pub record ShareSlot (a b : FaultParts) : Type 0 where
  pub slot : ℕ
  pub first : IsTrue (covers b.line slot a)
  pub second : IsTrue (covers a.line slot b)

-- one of these shares a slot with the fault
abbrev pub IsShared : List FaultParts → FaultParts → Type 0
IsShared faults fault = (k : ℕ) × IsSomeAnd (slice_get faults k) (λ earlier. ShareSlot earlier fault)

-- ---- two faults

share_from : (a b : FaultParts) → do_share a b ≡ true → ShareSlot a b
share_from a b is =
    let slot = max a.from b.from in
    let both = and_parts (a.line == b.line) (nat_le (max a.from b.from) (min a.to b.to)) is in
    let line : a.line ≡ b.line = eqb-true a.line b.line both.0 in
    let le = leb-true (max a.from b.from) (min a.to b.to) both.1 in
    let turned : (b.line == a.line) ≡ true = eq-eqb b.line a.line (sym line) in
    let p : nat_le a.from slot ≡ true = le_leb a.from slot (omega arith) in
    let q : nat_le slot a.to ≡ true = le_leb slot a.to (omega arith) in
    let r : nat_le b.from slot ≡ true = le_leb b.from slot (omega arith) in
    let s : nat_le slot b.to ≡ true = le_leb slot b.to (omega arith) in
    record { slot = slot; first = rw (both.0, p, q) refl; second = rw (turned, r, s) refl }

share_is : (a b : FaultParts) → ShareSlot a b → do_share a b ≡ true
share_is a b share =
    let one = and_parts (a.line == b.line) (spans share.slot a) share.first in
    let other = and_parts (b.line == a.line) (spans share.slot b) share.second in
    let in_a = and_parts (nat_le a.from share.slot) (nat_le share.slot a.to) one.1 in
    let in_b = and_parts (nat_le b.from share.slot) (nat_le share.slot b.to) other.1 in
    let p = leb-true a.from share.slot in_a.0 in
    let q = leb-true share.slot a.to in_a.1 in
    let r = leb-true b.from share.slot in_b.0 in
    let s = leb-true share.slot b.to in_b.1 in
    let le : nat_le (max a.from b.from) (min a.to b.to) ≡ true = le_leb (max a.from b.from) (min a.to b.to) (omega arith) in
    rw (one.0, le) refl

-- ---- a fault and earlier ones

any_from : (faults : List FaultParts) (fault : FaultParts) (k : ℕ) → IsSomeAnd (slice_get faults k) (λ earlier. ShareSlot earlier fault)
    → list_any (λ earlier. do_share earlier fault) faults ≡ true
any_from [] fault k share = absurd share
any_from (f ∷ faults) fault zero share = rw (share_is f fault share) refl
any_from (f ∷ faults) fault (suc k) share = rw (any_from faults fault k share) (or_true (do_share f fault))
  where
    or_true : (b : Bool) → (b || true) ≡ true
    or_true true = refl
    or_true false = refl

any_at : (faults : List FaultParts) (fault : FaultParts) → list_any (λ earlier. do_share earlier fault) faults ≡ true → IsShared faults fault
any_at [] fault is = absurd (false≢true is)
any_at (f ∷ faults) fault is = elim (cases_Bool (do_share f fault)) [
  | inl here ↦ (0, share_from f fault here)
  | inr other ↦ let more = any_at faults fault (rw other at is) in (suc more.0, more.1)
]

pub taken_where : (faults : List FaultParts) (fault : FaultParts) → IsShared faults fault → is_taken faults fault ≡ true
unfolding is_taken
taken_where faults fault shared = any_from faults fault shared.0 shared.1

pub free_where : (faults : List FaultParts) (fault : FaultParts) → (IsShared faults fault → ⊥) → is_taken faults fault ≡ false
unfolding is_taken
free_where faults fault free = elim (cases_Bool (list_any (λ earlier. do_share earlier fault) faults)) [
  | inl taken ↦ absurd (free (any_at faults fault taken))
  | inr other ↦ other
]

-- ---- the first place

found_none : (test : ℕ → Bool) (n a : ℕ) → ((k : ℕ) → a ≤ k → k < a + n → test k ≡ false) → find test (range_with_len a n) ≡ None
found_none test zero a fails = refl
found_none test (suc n) a fails = rw (fails a (omega arith) (omega arith)) (found_none test n (a + 1) (λ k low high. fails k (omega arith) (omega arith)))

found_first : (test : ℕ → Bool) (i : ℕ) (n a : ℕ) → a ≤ i → i < a + n → test i ≡ true → ((k : ℕ) → a ≤ k → k < i → test k ≡ false)
    → find test (range_with_len a n) ≡ Some i
found_first test i zero a low high is fails = absurd (omega arith)
found_first test i (suc n) a low high is fails = elim (cases_lt a i) [
  | inl before ↦ rw (fails a (omega arith) before) (found_first test i n (a + 1) (omega arith) (omega arith) is (λ k l h. fails k (omega arith) h))
  | inr here ↦ let e : a ≡ i = omega arith in rw (e, is) refl
]

-- none of the faults before a place shares a slot with an earlier one
abbrev pub AreFree : List FaultParts → ℕ → Type 0
AreFree faults bound = (k : ℕ) → k < bound → is_taken_at faults k ≡ false

pub one_more : (faults : List FaultParts) (bound : ℕ) (fault : FaultParts) → AreFree faults bound → slice_get faults bound ≡ Some fault
    → is_taken (take bound faults) fault ≡ false → AreFree faults (bound + 1)
one_more faults bound fault before at free k below = elim (cases_lt k bound) [
  | inl less ↦ before k less
  | inr here ↦ let e : k ≡ bound = omega arith in rw (e, at) free
]

pub none_overlaps : (faults : List FaultParts) (bound : ℕ) → length faults ≤ bound → AreFree faults bound → first_overlap faults ≡ None
unfolding first_overlap
none_overlaps faults bound all free = found_none (is_taken_at faults) (length faults) 0 (λ k low high. free k (omega arith))

pub first_overlaps : (faults : List FaultParts) (index : ℕ) (fault : FaultParts) → index < length faults → slice_get faults index ≡ Some fault → AreFree faults index
    → is_taken (take index faults) fault ≡ true → first_overlap faults ≡ Some index
unfolding first_overlap
first_overlaps faults index fault below at free taken =
    found_first (is_taken_at faults) index (length faults) 0 (omega arith) (omega arith) (rw at taken) (λ k low less. free k less)
