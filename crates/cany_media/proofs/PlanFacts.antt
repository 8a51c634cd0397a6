-- The tables of a plan, and which faults of it share slots.
use Rattle.std.proofs.Common.{◌≡◌, ◌≢◌, ℕ, zero, suc, ◌==◌, ◌++◌, true, false, if◌then◌else◌, List, [], ◌∷◌, Option, Some, None, IsTrue, refl, sym, ◌∙◌, subst, inl, inr}
use Rattle.std.specs.Prelude.{IsSome, find, slice_get}
use Rattle.std.specs.Option.{IsSomeAnd, option_or}
use Rattle.std.proofs.lemmas.Bool.{and_parts, cases_Bool, eq-eqb, eqb-true, false≢true, ne_eqb}
use Rattle.std.proofs.lemmas.List.Folds.{find-append}
use Rattle.cany_media.specs.Overlaps.{is_taken}
use Rattle.cany_media.specs.Plan.{FaultParts, covers, spans}
use Rattle.cany_media.specs.Stretches.{HasShared, IsFree, IsTableOf, found_at}
use Rattle.cany_media.proofs.OverlapFacts.{ShareSlot, free_where, taken_where}

or_none : (o : Option FaultParts) → option_or o None ≡ o
or_none None = refl
or_none (Some f) = refl

-- ---- an element that is found

-- a fault that covers the slot is among these, where one is found
among : (line slot : ℕ) (faults : List FaultParts) → IsSome (find (covers line slot) faults) → (k : ℕ) × IsSomeAnd (slice_get faults k) (λ f. covers line slot f ≡ true)
among line slot [] found = absurd (false≢true found)
among line slot (f ∷ faults) found = elim (cases_Bool (covers line slot f)) [
  | inl here ↦ (0, here)
  | inr other ↦ let more = among line slot faults (rw other at found) in (suc more.0, more.1)
]

-- and one is found where it is among these
found_among : (line slot : ℕ) (faults : List FaultParts) (k : ℕ) → IsSomeAnd (slice_get faults k) (λ f. covers line slot f ≡ true) → find (covers line slot) faults ≡ None → ⊥
found_among line slot [] k has none = has
found_among line slot (f ∷ faults) zero has none = some_none f (rw has at none)
  where
    some_none : (y : FaultParts) → Some y ≡ None → ⊥
    some_none y h = cc
found_among line slot (f ∷ faults) (suc k) has none = elim (cases_Bool (covers line slot f)) [
  | inl here ↦ some_none f (rw here at none)
  | inr other ↦ found_among line slot faults k has (rw other at none)
]
  where
    some_none : (y : FaultParts) → Some y ≡ None → ⊥
    some_none y h = cc

shares_from : (o : Option FaultParts) (fault : FaultParts) (slot : ℕ) → IsTrue (spans slot fault) → IsSomeAnd o (λ f. covers fault.line slot f ≡ true)
    → IsSomeAnd o (λ earlier. ShareSlot earlier fault)
shares_from None fault slot spanned has = has
shares_from (Some f) fault slot spanned has =
    let same : f.line ≡ fault.line = eqb-true f.line fault.line (and_parts (f.line == fault.line) (spans slot f) has).0 in
    let turned : (fault.line == f.line) ≡ true = eq-eqb fault.line f.line (sym same) in
    record { slot = slot; first = has; second = rw (turned, spanned) refl }

pub taken_from : (faults : List FaultParts) (fault : FaultParts) (table : List FaultParts) → IsTableOf faults fault.line table → HasShared table fault → is_taken faults fault ≡ true
taken_from faults fault table is shared =
    let found : IsSome (find (covers fault.line shared.slot) faults) = subst IsSome (is shared.slot) shared.found in
    let one = among fault.line shared.slot faults found in
    taken_where faults fault (one.0, shares_from (slice_get faults one.0) fault shared.slot shared.spanned one.1)

taken_at : (faults : List FaultParts) (fault : FaultParts) (table : List FaultParts) (k : ℕ) (o : Option FaultParts) → slice_get faults k ≡ o → IsTableOf faults fault.line table
    → IsFree table fault → IsSomeAnd o (λ earlier. ShareSlot earlier fault) → ⊥
taken_at faults fault table k None at is free has = has
taken_at faults fault table k (Some earlier) at is free has =
    let spanned = (and_parts (fault.line == earlier.line) (spans has.slot fault) has.second).1 in
    found_among fault.line has.slot faults k (rw at has.first) (sym (is has.slot) ∙ free has.slot spanned)

pub not_taken : (faults : List FaultParts) (fault : FaultParts) (table : List FaultParts) → IsTableOf faults fault.line table → IsFree table fault → is_taken faults fault ≡ false
not_taken faults fault table is free = free_where faults fault (λ taken. taken_at faults fault table taken.0 (slice_get faults taken.0) refl is free taken.1)

-- ---- the tables

pub table_more : (faults : List FaultParts) (fault : FaultParts) (old new : List FaultParts) (line : ℕ) → fault.line ≡ line → IsTableOf faults line old → IsFree old fault
    → ((slot : ℕ) → found_at new slot ≡ (if spans slot fault then Some fault else found_at old slot)) → IsTableOf (faults ++ fault ∷ []) line new
table_more faults fault old new line same is free entered slot =
    entered slot ∙ sym (find-append (covers line slot) faults (fault ∷ []) ∙ rw (eq-eqb fault.line line same, sym (is slot)) (elim (cases_Bool (spans slot fault)) [
      | inl has ↦ rw (has, free slot has) refl
      | inr lacks ↦ rw lacks (or_none (found_at old slot))
    ]))

pub table_same : (faults : List FaultParts) (fault : FaultParts) (table : List FaultParts) (line : ℕ) → fault.line ≢ line → IsTableOf faults line table
    → IsTableOf (faults ++ fault ∷ []) line table
table_same faults fault table line other is slot =
    is slot ∙ sym (find-append (covers line slot) faults (fault ∷ []) ∙ rw (ne_eqb fault.line line other) (or_none (find (covers line slot) faults)))
