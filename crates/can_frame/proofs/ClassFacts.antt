-- The class of a frame stands in its identifier.
use Rattle.std.specs.Prelude.{slice_get, Option, Some, None, IsNone, IfSome, ◌↔◌}
use Rattle.std.proofs.Common.{◌≡◌, ℕ, ◌/◌, ◌^◌, ◌<◌, ap, sym, refl, ◌∙◌, arith}
use Rattle.std.proofs.lemmas.Option.{slice_get_past}
use Rattle.cany_base.specs.declared.class.Class.{Class}
use Rattle.cany_base.specs.declared.class.Class.TheVariants.{Accept, Rha, Els, Fda, Join, Leave, Confirm, Tot, Rel, Ed}
use Rattle.cany_base.specs.declared.format.Format.{Format}
use Rattle.cany_base.specs.declared.format.Format.TheVariants.{One, Two}
use Rattle.cany_base.specs.Frame.{FrameParts, class_number, identifier_of}
use Rattle.can_frame.specs.Classes.{classes, class_in}
use Rattle.can_frame.specs.Decoding.{IsClassOf}
use Rattle.can_frame.specs.Identifier.{FitsIdentifier}
use Rattle.can_frame.proofs.IdentityFacts.{incarnation_below}

-- each class stands at its number
at_number : (class : Class) → slice_get classes (class_number class) ≡ Some class
at_number Accept = refl
at_number Rha = refl
at_number Els = refl
at_number Fda = refl
at_number Join = refl
at_number Leave = refl
at_number Confirm = refl
at_number Tot = refl
at_number Rel = refl
at_number Ed = refl

pub class_found : (class : Class) (ident : ℕ) → IsClassOf class ident → class_in ident ≡ Some class
unfolding class_in
class_found class ident is = ap (slice_get classes) (sym is) ∙ at_number class

pub no_class : (ident : ℕ) → 9 < ident / 2 ^ 25 → class_in ident ≡ None
unfolding class_in
no_class ident above = slice_get_past classes (ident / 2 ^ 25) (omega arith)

pub class_above : (format : Format) (f : FrameParts) → FitsIdentifier format f → IsClassOf f.class (identifier_of format f)
class_above One f (fits, inc) = omega (arith, incarnation_below f.class f.inc inc)
class_above Two f (fits, inc) = omega (arith, incarnation_below f.class f.inc inc)

-- the class that stands in the identifier of a frame is that of the frame
pub class_of_frame : (format : Format) (f : FrameParts) → FitsIdentifier format f → class_in (identifier_of format f) ≡ Some f.class
class_of_frame format f fits = class_found f.class (identifier_of format f) (class_above format f fits)

-- it is the class of the number in the highest of the identifier's bits
pub class_of_number : (ident : ℕ) (found : Option Class) → (IsNone found ↔ (9 < ident / 2 ^ 25))
    → IfSome found (λ class. class_number class ≡ ident / 2 ^ 25) → found ≡ class_in ident
class_of_number ident None none is = sym (no_class ident (none.0 refl))
class_of_number ident (Some class) none is = sym (class_found class ident is)
