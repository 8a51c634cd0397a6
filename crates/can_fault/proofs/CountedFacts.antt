-- Keys of counts are equal exactly if what they stand for counts together.
use Rattle.std.proofs.Common.{◌≡◌, ◌≢◌, ℕ, ◌==◌, true, false, inl, inr, ap, sym, ◌∙◌, arith, if◌then◌else◌, eqb-true, eq-eqb}
use Rattle.std.proofs.lemmas.Grind.{common_steps}
use Rattle.std.proofs.lemmas.Bool.{and_parts, and_from, cases_Bool}
use Rattle.std.specs.Cmp.{both_ways}
use Rattle.cany_base.specs.declared.class.Class.TheVariants.{Rha}
use Rattle.cany_base.specs.Frame.{FrameParts}
use Rattle.cany_model.specs.Bus.Frames.{Identity, identity_of, same_class}
use Rattle.cany_model.specs.Promises.Hypothesis.{count_together}
use Rattle.cany_model.proofs.Bus.Identities.{same_class-true, same_class_self, same_identity-true}
use Rattle.can_fault.specs.declared.counts.Counted.{Counted}
use Rattle.can_fault.specs.declared.counts.Counted.TheVariants.{Vectors, Frame}
use Rattle.can_fault.specs.declared.identity.FrameIdentity.{FrameIdentity}
use Rattle.can_fault.specs.Counted.{same_counted, counted_of}
use Rattle.can_fault.specs.Identities.{frame_identity}
use Rattle.can_fault.proofs.KeyFacts.{same_from_keys}

pub same_counted-true : (a b : Counted) → same_counted a b ≡ true → a ≡ b
same_counted-true a b h = grind (arith, common_steps)

pub same_counted_self : (a : Counted) → same_counted a a ≡ true
same_counted_self a = grind (arith, common_steps)

pub counted_rha : (x : Identity) → same_class x.class Rha ≡ true → counted_of x ≡ Vectors x.number
counted_rha x h = ap (λ b. if b then Vectors x.number else Frame (frame_identity x)) h

pub counted_other : (x : Identity) → same_class x.class Rha ≡ false → counted_of x ≡ Frame (frame_identity x)
counted_other x h = ap (λ b. if b then Vectors x.number else Frame (frame_identity x)) h

pub counted_vectors : (f : FrameParts) → f.class ≡ Rha → Vectors f.number ≡ counted_of (identity_of f)
counted_vectors f e = sym (counted_rha (identity_of f) (rw e (same_class_self Rha)))

pub counted_frame : (f : FrameParts) → f.class ≢ Rha → Frame (frame_identity (identity_of f)) ≡ counted_of (identity_of f)
counted_frame f other = elim (cases_Bool (same_class f.class Rha)) [
  | inl rha ↦ absurd (other (same_class-true f.class Rha rha))
  | inr apart ↦ sym (counted_other (identity_of f) apart)
]

vectors_number : (n m : ℕ) → Vectors n ≡ Vectors m → n ≡ m
vectors_number n m h = cc

vectors_apart : (n : ℕ) (identity : FrameIdentity) → Vectors n ≡ Frame identity → ⊥
vectors_apart n identity h = cc

frame_name : (n m : FrameIdentity) → Frame n ≡ Frame m → n ≡ m
frame_name n m h = cc

-- ---- keys are equal exactly if the identities count together

together_from : (x y : Identity) → counted_of x ≡ counted_of y → count_together x y ≡ true
unfolding count_together
together_from x y e = elim (cases_Bool (same_class x.class Rha)) [
  | inl here ↦ elim (cases_Bool (same_class y.class Rha)) [
    | inl there ↦
        let number : x.number ≡ y.number = vectors_number x.number y.number (sym (counted_rha x here) ∙ e ∙ counted_rha y there) in
        rw here (and_from (same_class y.class Rha) (x.number == y.number) there (eq-eqb x.number y.number number))
    | inr apart ↦ absurd (vectors_apart x.number (frame_identity y) (sym (counted_rha x here) ∙ e ∙ counted_other y apart))
  ]
  | inr other ↦ elim (cases_Bool (same_class y.class Rha)) [
    | inl there ↦ absurd (vectors_apart y.number (frame_identity x) (sym (counted_rha y there) ∙ sym e ∙ counted_other x other))
    | inr apart ↦ rw other (same_from_keys x y (frame_name (frame_identity x) (frame_identity y) (sym (counted_other x other) ∙ e ∙ counted_other y apart)))
  ]
]

counted_from : (x y : Identity) → count_together x y ≡ true → counted_of x ≡ counted_of y
unfolding count_together
counted_from x y h = elim (cases_Bool (same_class x.class Rha)) [
  | inl here ↦
      let both = and_parts (same_class y.class Rha) (x.number == y.number) (rw here at h) in
      counted_rha x here ∙ ap (λ n. Vectors n) (eqb-true x.number y.number both.1) ∙ sym (counted_rha y both.0)
  | inr other ↦ ap (λ z. counted_of z) (same_identity-true x y (rw other at h))
]

pub together : (x y : Identity) → same_counted (counted_of x) (counted_of y) ≡ count_together x y
together x y =
    both_ways (same_counted (counted_of x) (counted_of y)) (count_together x y)
    (λ h. together_from x y (same_counted-true (counted_of x) (counted_of y) h))
    (λ h. rw (counted_from x y h) (same_counted_self (counted_of y)))
