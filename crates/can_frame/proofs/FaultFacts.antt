-- An identifier, a kind and a payload have one first fault, or are a frame.
use Rattle.std.specs.Prelude.{Result, Ok, Err}
use Rattle.std.proofs.Common.{◌≡◌, ◌≢◌, ℕ, ◌%◌, ◌^◌, ◌↔◌, Bool, false, List, None, Some, refl, ap, sym, subst, ◌∙◌, arith}
use Rattle.cany_base.specs.declared.class.Class.{Class}
use Rattle.cany_base.specs.declared.format.Format.{Format}
use Rattle.cany_base.specs.declared.format.Format.TheVariants.{One, Two}
use Rattle.cany_base.specs.Frame.{FrameParts, FitsIncarnation, has_incarnation, identifier_of, is_remote}
use Rattle.can_frame.specs.Decoding.{Carries, IsClassOf, IsFirstFault, IsFrameOf}
use Rattle.can_frame.specs.Identifier.{FitsIdentifier}
use Rattle.can_frame.specs.declared.decoding.FrameFault.{FrameFault}
use Rattle.can_frame.specs.declared.decoding.FrameFault.TheVariants as fault
use Rattle.can_frame.proofs.ClassFacts.{class_above, class_found, no_class}
use Rattle.can_frame.proofs.IdentityFacts.{incarnation_below, same_class}

inc_in : (format : Format) (f : FrameParts) → FitsIdentifier format f → f.inc ≡ identifier_of format f % 2 ^ 4
inc_in One f (fits, inc) = omega (arith, incarnation_below f.class f.inc inc)
inc_in Two f (fits, inc) = omega (arith, incarnation_below f.class f.inc inc)

not_told : (class : Class) (inc : ℕ) → has_incarnation class ≡ false → inc ≢ 0 → FitsIncarnation class inc → ⊥
not_told class inc none some fits = some (omega (arith, rw none at fits))

module _ (format : Format) (ident : ℕ) (remote : Bool) (payload : List ℕ) where
  abbrev First : FrameFault → Type 0
  First e = IsFirstFault format e ident remote payload

  abbrev IsFrame : FrameParts → Type 0
  IsFrame f = IsFrameOf format ident remote payload f

  one_class : (a b : Class) → IsClassOf a ident → IsClassOf b ident → a ≡ b
  one_class a b here there = same_class a b (here ∙ sym there)

  -- what contradicts each fault
  no_class_is : First fault.Class → (class : Class) → IsClassOf class ident → ⊥
  no_class_is above class is =
      let e : None ≡ Some class = sym (no_class ident above) ∙ class_found class ident is in
      cc

  pad_is_told : First fault.Pad → (class : Class) → IsClassOf class ident → FitsIncarnation class (ident % 2 ^ 4) → ⊥
  pad_is_told h class is fits =
      not_told h.0 (ident % 2 ^ 4) h.2 h.3 (subst (λ c. FitsIncarnation c (ident % 2 ^ 4)) (one_class class h.0 is h.1) fits)

  kind_is_right : First fault.Kind → (class : Class) → IsClassOf class ident → is_remote class ≡ remote → ⊥
  kind_is_right h class is kind = h.3 (ap is_remote (one_class h.0 class h.1 is) ∙ kind)

  one_fault : (e k : FrameFault) → First e → First k → e ≡ k
  one_fault fault.Class fault.Class h l = refl
  one_fault fault.Class fault.Pad h l = absurd (no_class_is h l.0 l.1)
  one_fault fault.Class fault.Kind h l = absurd (no_class_is h l.0 l.1)
  one_fault fault.Class fault.Length h l = absurd (no_class_is h l.0 l.1)
  one_fault fault.Pad fault.Class h l = absurd (no_class_is l h.0 h.1)
  one_fault fault.Pad fault.Pad h l = refl
  one_fault fault.Pad fault.Kind h l = absurd (pad_is_told h l.0 l.1 l.2)
  one_fault fault.Pad fault.Length h l = absurd (pad_is_told h l.0 l.1 l.2)
  one_fault fault.Kind fault.Class h l = absurd (no_class_is l h.0 h.1)
  one_fault fault.Kind fault.Pad h l = absurd (pad_is_told l h.0 h.1 h.2)
  one_fault fault.Kind fault.Kind h l = refl
  one_fault fault.Kind fault.Length h l = absurd (kind_is_right h l.0 l.1 l.3)
  one_fault fault.Length fault.Class h l = absurd (no_class_is l h.0 h.1)
  one_fault fault.Length fault.Pad h l = absurd (pad_is_told l h.0 h.1 h.2)
  one_fault fault.Length fault.Kind h l = absurd (kind_is_right l h.0 h.1 h.3)
  one_fault fault.Length fault.Length h l = refl

  class_of_frame : (f : FrameParts) → IsFrame f → IsClassOf f.class ident
  class_of_frame f is = subst (IsClassOf f.class) is.identifier (class_above format f (is.fits, is.inc))

  told_of_frame : (f : FrameParts) → IsFrame f → FitsIncarnation f.class (ident % 2 ^ 4)
  told_of_frame f is =
      subst (λ n. FitsIncarnation f.class (n % 2 ^ 4)) is.identifier (subst (FitsIncarnation f.class) (inc_in format f (is.fits, is.inc)) is.inc)

  no_frame : (e : FrameFault) → First e → (f : FrameParts) → IsFrame f → ⊥
  no_frame fault.Class h f is = no_class_is h f.class (class_of_frame f is)
  no_frame fault.Pad h f is = pad_is_told h f.class (class_of_frame f is) (told_of_frame f is)
  no_frame fault.Kind h f is = kind_is_right h f.class (class_of_frame f is) is.kind
  no_frame fault.Length h f is =
      h.4 (subst (λ c. Carries format c payload) (one_class f.class h.0 (class_of_frame f is) h.1) (subst (Carries format f.class) is.bytes is.carries))

  abbrev Answer : Type 0
  Answer = Result FrameParts FrameFault

  ok_or_err : (f : FrameParts) (e : FrameFault) (x y : Answer) → x ≡ Ok f → y ≡ Err e → x ≡ y → ⊥
  ok_or_err f e x y ok err same = let q : Ok f ≡ Err e = sym ok ∙ same ∙ err in cc

  same_err : (e k : FrameFault) (x y : Answer) → x ≡ Err e → y ≡ Err k → x ≡ y → e ≡ k
  same_err e k x y here there same = let q : Err e ≡ Err k = sym here ∙ same ∙ there in cc

  -- a fault that is the first is the answer
  pub refused_frame : (e : FrameFault) → First e → (f : FrameParts) → (Err e ≡ Ok f) ↔ IsFrame f
  refused_frame e h f = (λ q. absurd (ok_or_err f e (Ok f) (Err e) refl refl (sym q)), λ is. absurd (no_frame e h f is))

  pub refused_fault : (e : FrameFault) → First e → (k : FrameFault) → (◌≡◌ {A = Answer} (Err e) (Err k)) ↔ First k
  refused_fault e h k = (λ q. subst First (same_err e k (Err e) (Err k) refl refl q) h, λ l. ap Err (one_fault e k h l))

  -- a frame has none
  pub made_fault : (f : FrameParts) → IsFrame f → (k : FrameFault) → (Ok f ≡ Err k) ↔ First k
  made_fault f is k = (λ q. absurd (ok_or_err f k (Ok f) (Err k) refl refl q), λ l. absurd (no_frame k l f is))
