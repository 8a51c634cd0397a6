-- Notices that were read of a cycle: which copies and transmissions of a vector there are among
-- them.
use Rattle.std.proofs.Common.{◌≡◌, ℕ, zero, suc, ◌*◌, ◌<◌, ◌≤◌, inl, inr, ◌==◌, ◌&&◌, Bool, true, false, not, if◌then◌else◌, List, [], ◌∷◌, replicate, Option, Some, None, count_by, refl, ap, sym, ◌∙◌, subst, arith}
use Rattle.std.specs.List.{AllByRecursion, list_any}
use Rattle.std.proofs.lemmas.Bool.{and_parts, cases_Bool, eqb-true, false_from_ne_true}
use Rattle.cany_base.specs.declared.class.Class.TheVariants as class
use Rattle.cany_base.specs.declared.format.Format.{Format}
use Rattle.cany_base.specs.declared.notice.NoticeKind.{NoticeKind}
use Rattle.cany_base.specs.declared.notice.NoticeKind.TheVariants.{Idle, Got, Sent, Bad}
use Rattle.cany_base.specs.Frame.{FrameParts}
use Rattle.cany_base.specs.Nodes.{Nodes}
use Rattle.cany_base.specs.Params.{Parameters}
use Rattle.cany_base.proofs.SetFacts.{same_bits, same_by_parts}
use Rattle.cany_model.specs.Bus.Frames.{same_class}
use Rattle.cany_model.specs.Rules.Notices.{IsPart, IsReadAfterStart, IsReadableVector}
use Rattle.cany_model.specs.Rules.Vectors.{is_just, is_new, is_vector_got, is_vector_sent, vector_in}
use Rattle.cany_model.proofs.Among.{Each-weaker, count-no}
use Rattle.cany_model.proofs.Bus.Identities.{same_class-true}
use Rattle.cany_history.specs.History.{HasMore, HasNoVector, StandsIn, vector_read}
use Rattle.cany_history.proofs.MetFacts.{bits_same}

-- ---- a frame with a vector of the cycle

pub record IsOfCycle (cycle : ℕ) (f : FrameParts) : Type 0 where
  pub class : f.class ≡ class.Rha
  pub number : f.number ≡ cycle

-- a frame that is none has no vector of it
pub vector_frame : (format : Format) (cycle : ℕ) (f : FrameParts) (w : Nodes) → vector_in format cycle f ≡ Some w → IsOfCycle cycle f
vector_frame format cycle f w h = elim (cases_Bool (same_class f.class class.Rha && f.number == cycle)) [
  | inl is ↦
      let parts = and_parts (same_class f.class class.Rha) (f.number == cycle) is in
      record { class = same_class-true f.class class.Rha parts.0; number = eqb-true f.number cycle parts.1 }
  | inr none ↦ let e : None ≡ Some w = rw none at h in absurd (cc)
]

-- ---- what was read of a cycle where nothing was

module _ (format : Format) (cycle i : ℕ) where
  -- a notice that has no vector is neither a copy nor a transmission of one
  is_just-none : (v : Nodes) (x : Option Nodes) → x ≡ None → is_just v x ≡ false
  unfolding is_just
  is_just-none v x h = rw h refl

  sent_read : (v : Nodes) (f : FrameParts)
      → (f.node == i && is_just v (vector_in format cycle f)) ≡ is_just v (if f.node == i then vector_in format cycle f else None)
  unfolding is_just
  sent_read v f = by_node (f.node == i)
    where
      by_node : (b : Bool) → (b && is_just v (vector_in format cycle f)) ≡ is_just v (if b then vector_in format cycle f else None)
      by_node true = refl
      by_node false = refl

  -- a copy of the vector is a notice that has just this one
  got_read : (v : Nodes) (notice : NoticeKind) → is_just v (vector_read format cycle i notice) ≡ false
      → is_vector_got format cycle v notice ≡ false
  got_read v Idle h = refl
  got_read v (Got f) h = h
  got_read v (Sent f) h = refl
  got_read v Bad h = refl

  own_read : (v : Nodes) (notice : NoticeKind) → is_just v (vector_read format cycle i notice) ≡ false
      → is_vector_sent format cycle i v notice ≡ false
  own_read v Idle h = refl
  own_read v (Got f) h = refl
  own_read v (Sent f) h = sent_read v f ∙ h
  own_read v Bad h = refl

  IsNot : Nodes → NoticeKind → Type 0
  IsNot v notice = is_just v (vector_read format cycle i notice) ≡ false

  no_copies : (v : Nodes) (past : List NoticeKind) → AllByRecursion (IsNot v) past → count_by (is_vector_got format cycle v) past ≡ 0
  unfolding IsNot
  no_copies v [] all = refl
  no_copies v (notice ∷ past) all = count-no (is_vector_got format cycle v) notice past (got_read v notice all.0) ∙ no_copies v past all.1

  no_own : (v : Nodes) (past : List NoticeKind) → AllByRecursion (IsNot v) past → list_any (is_vector_sent format cycle i v) past ≡ false
  unfolding IsNot
  no_own v [] all = refl
  no_own v (notice ∷ past) all = rw (own_read v notice all.0) (no_own v past all.1)

  -- where nothing was read
  each_not : (v : Nodes) (past : List NoticeKind) → AllByRecursion (HasNoVector format cycle i) past → AllByRecursion (IsNot v) past
  unfolding IsNot
  each_not v past none =
      Each-weaker (HasNoVector format cycle i) (IsNot v) (λ notice h. is_just-none v (vector_read format cycle i notice) h) past none

  pub unread_copies : (v : Nodes) (past : List NoticeKind) → AllByRecursion (HasNoVector format cycle i) past
      → count_by (is_vector_got format cycle v) past ≡ 0
  unread_copies v past none = no_copies v past (each_not v past none)

  pub unread_own : (v : Nodes) (past : List NoticeKind) → AllByRecursion (HasNoVector format cycle i) past
      → list_any (is_vector_sent format cycle i v) past ≡ false
  unread_own v past none = no_own v past (each_not v past none)

  pub more_from_none : (vector : Option Nodes) (notice : NoticeKind) → HasNoVector format cycle i notice
      → HasMore format cycle i vector notice
  more_from_none vector notice none w h = let e : None ≡ Some w = sym none ∙ h in absurd (cc)

  pub unread_more : (vector : Option Nodes) (past : List NoticeKind) → AllByRecursion (HasNoVector format cycle i) past
      → AllByRecursion (HasMore format cycle i vector) past
  unread_more vector past none = Each-weaker (HasNoVector format cycle i) (HasMore format cycle i vector) (more_from_none vector) past none

  -- ---- a vector that is new, and part of the one before

  -- none that was read is just this one
  other_vector : (old : Option Nodes) (v w : Nodes) → StandsIn old w → ((own : Nodes) → old ≡ Some own → IsPart v own)
      → is_new old v ≡ true → (w.bits == v.bits) ≡ false
  unfolding is_new
  other_vector None v w stands part new = absurd stands
  other_vector (Some own) v w stands part new = false_from_ne_true (w.bits == v.bits) (λ same.
      let is : w ≡ v = same_bits w v (eqb-true w.bits v.bits same) in
      let there : IsPart own v = subst (λ x. IsPart own x) is stands in
      let still : (own.bits == v.bits) ≡ true = bits_same own v (same_by_parts own v there (part own refl)) in
      let other : not true ≡ true = rw still at new in
      absurd (cc))

  is_just_other : (old : Option Nodes) (v : Nodes) (x : Option Nodes) → ((w : Nodes) → x ≡ Some w → StandsIn old w)
      → ((own : Nodes) → old ≡ Some own → IsPart v own)
      → is_new old v ≡ true → is_just v x ≡ false
  unfolding is_just
  is_just_other old v None more part new = refl
  is_just_other old v (Some w) more part new = other_vector old v w (more w refl) part new

  module _ (old : Option Nodes) (v : Nodes) (part : (own : Nodes) → old ≡ Some own → IsPart v own) (new : is_new old v ≡ true) where
    each_other : (past : List NoticeKind) → AllByRecursion (HasMore format cycle i old) past → AllByRecursion (IsNot v) past
    unfolding IsNot
    each_other past all =
        Each-weaker (HasMore format cycle i old) (IsNot v)
        (λ notice more. is_just_other old v (vector_read format cycle i notice) more part new) past all

    pub new_copies : (past : List NoticeKind) → AllByRecursion (HasMore format cycle i old) past
        → count_by (is_vector_got format cycle v) past ≡ 0
    new_copies past all = no_copies v past (each_other past all)

    pub new_own : (past : List NoticeKind) → AllByRecursion (HasMore format cycle i old) past
        → list_any (is_vector_sent format cycle i v) past ≡ false
    new_own past all = no_own v past (each_other past all)

  -- what has all of a vector has all of a part of it
  stands_smaller : (old : Option Nodes) (v w : Nodes) → ((own : Nodes) → old ≡ Some own → IsPart v own) → StandsIn old w → IsPart v w
  stands_smaller None v w part stands = absurd stands
  stands_smaller (Some own) v w part stands = λ r h. stands r (part own refl r h)

  pub smaller_more : (old : Option Nodes) (v : Nodes) → ((own : Nodes) → old ≡ Some own → IsPart v own) → (past : List NoticeKind)
      → AllByRecursion (HasMore format cycle i old) past → AllByRecursion (HasMore format cycle i (Some v)) past
  smaller_more old v part past all =
      Each-weaker (HasMore format cycle i old) (HasMore format cycle i (Some v))
      (λ notice more w h. stands_smaller old v w part (more w h)) past all

-- ---- notices of idle slots

pub idle_unread : (format : Format) (cycle i n : ℕ) → AllByRecursion (HasNoVector format cycle i) (replicate n Idle)
idle_unread format cycle i zero = tt
idle_unread format cycle i (suc n) = (refl, idle_unread format cycle i n)

-- ---- one notice more, before the start of a cycle or at it

-- a frame that is read after the start of its cycle has no vector of one that did not start before
-- the slot
early_frame : (p : Parameters) (slot cycle : ℕ) (f : FrameParts) → slot ≤ cycle * p.cycle → IsReadAfterStart p slot f
    → vector_in p.format cycle f ≡ None
early_frame p slot cycle f early after = elim (cases_Bool (same_class f.class class.Rha && f.number == cycle)) [
  | inl is ↦
      let parts = and_parts (same_class f.class class.Rha) (f.number == cycle) is in
      let late : f.number * p.cycle < slot = after (same_class-true f.class class.Rha parts.0) in
      let number : f.number * p.cycle ≡ cycle * p.cycle = ap (λ k. k * p.cycle) (eqb-true f.number cycle parts.1) in
      absurd (omega (arith, late, number, early))
  | inr none ↦ rw none refl
]

pub early_notice : (p : Parameters) (i slot cycle : ℕ) (own : Option Nodes) (notice : NoticeKind) → slot ≤ cycle * p.cycle
    → IsReadableVector p i slot own notice
    → HasNoVector p.format cycle i notice
early_notice p i slot cycle own Idle early readable = refl
early_notice p i slot cycle own Bad early readable = refl
early_notice p i slot cycle own (Got f) early readable = early_frame p slot cycle f early readable
early_notice p i slot cycle own (Sent f) early readable = by_node (f.node == i)
  where
    by_node : (b : Bool) → (if b then vector_in p.format cycle f else None) ≡ None
    by_node true = early_frame p slot cycle f early readable.0
    by_node false = refl
