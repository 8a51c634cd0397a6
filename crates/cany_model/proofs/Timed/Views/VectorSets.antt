-- Parts of sets of nodes, and their sizes: a part that is not the whole is smaller. And sets as the
-- vectors of frames.
use Rattle.std.proofs.Common.{◌≡◌, ◌≢◌, ℕ, zero, suc, ◌+◌, ◌<◌, ◌≤◌, ◌⊎◌, inl, inr, if◌then◌else◌, Bool, true, false, Option, Some, None, refl, ap, sym, ◌∙◌, subst, arith}
use Rattle.std.proofs.lemmas.Bool.{both_ways, cases_Bool, cases_eq, cases_lt, eqb-true, false≢true}
use Rattle.cany_base.specs.Limits.{most_nodes}
use Rattle.cany_base.specs.declared.format.Format.{Format}
use Rattle.cany_base.specs.declared.format.Format.TheVariants.{One, Two}
use Rattle.cany_base.specs.Layout.{layout}
use Rattle.cany_base.specs.Nodes.{Nodes, AllBelow, has, meet}
use Rattle.cany_base.specs.Payload.{vector_bytes, vector_of}
use Rattle.cany_base.proofs.NodesFacts.{bits-lt, same_nodes}
use Rattle.cany_base.proofs.PayloadFacts.{bits-back}
use Rattle.cany_base.proofs.SetFacts.{meet_both, same_bits}
use Rattle.cany_model.specs.Rules.Notices.{IsPart}
use Rattle.cany_model.specs.Rules.Vectors.{is_just}

-- ---- parts

pub meet_left : (a b : Nodes) → IsPart (meet a b) a
meet_left a b r h = (meet_both a b r h).0

pub meet_right : (a b : Nodes) → IsPart (meet a b) b
meet_right a b r h = (meet_both a b r h).1

-- ---- sizes

-- how many of the first n nodes the set has
pub size : Nodes → ℕ → ℕ
size v zero = 0
size v (suc n) = size v n + (if has v n then 1 else 0)

one_or_none : (b : Bool) → (if b then 1 else 0) ≤ 1
one_or_none true = omega arith
one_or_none false = omega arith

pub size_most : (v : Nodes) (n : ℕ) → size v n ≤ n
unfolding size
size_most v zero = omega arith
size_most v (suc n) = omega (arith, size_most v n, one_or_none (has v n))

-- a part is smaller, or it has the same nodes
size_part : (v w : Nodes) → IsPart v w → (n : ℕ)
    → (size v n < size w n) ⊎ ((size v n ≡ size w n) × ((r : ℕ) → r < n → has v r ≡ has w r))
unfolding size
size_part v w part zero = inr (refl, λ r below. absurd (omega (arith, below)))
size_part v w part (suc n) = elim (size_part v w part n) [
  | inl less ↦ inl (by_bits less (has v n) refl (has w n) refl)
  | inr same ↦ by_same same (has v n) refl (has w n) refl
]
  where
    by_bits : size v n < size w n → (a : Bool) → has v n ≡ a → (b : Bool) → has w n ≡ b
        → size v n + (if has v n then 1 else 0) < size w n + (if has w n then 1 else 0)
    by_bits less true ea true eb = rw (ea, eb) (omega (arith, less))
    by_bits less true ea false eb = absurd (both_ways (has w n) eb (part n ea))
    by_bits less false ea true eb = rw (ea, eb) (omega (arith, less))
    by_bits less false ea false eb = rw (ea, eb) (omega (arith, less))

    more : ((r : ℕ) → r < n → has v r ≡ has w r) → has v n ≡ has w n → (r : ℕ) → r < suc n → has v r ≡ has w r
    more all at r below = elim (cases_eq r n) [
      | inl same ↦ subst (λ x. has v x ≡ has w x) (sym same) at
      | inr other ↦ all r (omega (arith, below, other))
    ]

    by_same : (size v n ≡ size w n) × ((r : ℕ) → r < n → has v r ≡ has w r) → (a : Bool) → has v n ≡ a → (b : Bool) → has w n ≡ b
        → (size v n + (if has v n then 1 else 0) < size w n + (if has w n then 1 else 0))
        ⊎ ((size v n + (if has v n then 1 else 0) ≡ size w n + (if has w n then 1 else 0))
        × ((r : ℕ) → r < suc n → has v r ≡ has w r))
    by_same s true ea true eb = inr (rw (ea, eb) (omega (arith, s.0)), more s.1 (ea ∙ sym eb))
    by_same s true ea false eb = absurd (both_ways (has w n) eb (part n ea))
    by_same s false ea true eb = inl (rw (ea, eb) (omega (arith, s.0)))
    by_same s false ea false eb = inr (rw (ea, eb) (omega (arith, s.0)), more s.1 (ea ∙ sym eb))

pub size_le : (n : ℕ) (v w : Nodes) → IsPart v w → size v n ≤ size w n
size_le n v w part = elim (size_part v w part n) [ inl less ↦ omega (arith, less) | inr same ↦ omega (arith, same.0) ]

absent : (n : ℕ) (v : Nodes) → AllBelow n v → (r : ℕ) → n ≤ r → has v r ≡ false
absent n v below r above = elim (cases_Bool (has v r)) [
  | inl there ↦ absurd (omega (arith, below r there, above))
  | inr none ↦ none
]

-- a part of the nodes below n that is not the whole is smaller
pub size_less : (n : ℕ) (v w : Nodes) → IsPart v w → AllBelow n v → AllBelow n w → v ≢ w → size v n < size w n
size_less n v w part bv bw other = elim (size_part v w part n) [
  | inl less ↦ less
  | inr same ↦ absurd (other (same_nodes v w (λ r. elim (cases_lt r n) [
    | inl below ↦ same.1 r below
    | inr above ↦ absent n v bv r above ∙ sym (absent n w bw r above)
  ])))
]

-- ---- vectors in frames

-- the bytes of a vector give it back, where its nodes are those of a bus of the format
pub vector_again : (format : Format) (v : Nodes) → AllBelow (layout format).nodes v → vector_of format (vector_bytes format v) ≡ Some v
vector_again One v below = ap (λ b. Some (record { bits = b })) (bits-back One v.bits (bits-lt 32 v below))
vector_again Two v below = ap (λ b. Some (record { bits = b })) (bits-back Two v.bits (bits-lt most_nodes v below))

pub just_this : (v : Nodes) (o : Option Nodes) → is_just v o ≡ true → o ≡ Some v
unfolding is_just
just_this v None h = absurd (false≢true h)
just_this v (Some w) h = ap (λ u. Some u) (same_bits w v (eqb-true w.bits v.bits h))
