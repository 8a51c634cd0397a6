-- The frame that an identifier, a kind and a payload stand for, and why they stand for none.
use Rattle.std.specs.Prelude.{◌≡◌, ◌≢◌, ℕ, ◌<◌, ◌/◌, ◌%◌, ◌^◌, Bool, false, List, length}
use Rattle.cany_base.specs.declared.class.Class.{Class}
use Rattle.cany_base.specs.declared.class.Class.TheVariants.{Rha}
use Rattle.cany_base.specs.declared.format.Format.{Format}
use Rattle.cany_base.specs.Frame.{FrameParts, class_number, identifier_of, is_remote, FitsClass, has_incarnation, FitsIncarnation}
use Rattle.cany_base.specs.Layout.{layout}
use Rattle.can_frame.specs.declared.decoding.FrameFault.{FrameFault}
use Rattle.can_frame.specs.declared.decoding.FrameFault.TheVariants as fault
use Rattle.can_frame.specs.Identifier.{FitsFormat}

-- the bytes that a frame of a class carries in a format: a vector has those of the format
abbrev pub Carries : Format → Class → List ℕ → Type 0
Carries format Rha payload = length payload ≡ (layout format).vector
Carries format class payload = FitsClass class payload

-- f is the frame of the format that has this identifier, this kind and this payload
pub record IsFrameOf (format : Format) (ident : ℕ) (remote : Bool) (payload : List ℕ) (f : FrameParts) : Type 0 where
  pub inc : FitsIncarnation f.class f.inc
  pub carries : Carries format f.class f.payload
  pub fits : FitsFormat format f
  pub identifier : identifier_of format f ≡ ident
  pub kind : is_remote f.class ≡ remote
  pub bytes : f.payload ≡ payload

-- the class stands in the identifier
abbrev pub IsClassOf : Class → ℕ → Type 0
IsClassOf class ident = class_number class ≡ ident / 2 ^ 25

-- the first of the four tests that these do not pass
abbrev pub IsFirstFault : Format → FrameFault → ℕ → Bool → List ℕ → Type 0
IsFirstFault format fault.Class ident remote payload = 9 < ident / 2 ^ 25
IsFirstFault format fault.Pad ident remote payload =
    (class : Class) × IsClassOf class ident × (has_incarnation class ≡ false) × (ident % 2 ^ 4 ≢ 0)
IsFirstFault format fault.Kind ident remote payload =
    (class : Class) × IsClassOf class ident × FitsIncarnation class (ident % 2 ^ 4) × (is_remote class ≢ remote)
IsFirstFault format fault.Length ident remote payload =
    (class : Class) × IsClassOf class ident × FitsIncarnation class (ident % 2 ^ 4) × (is_remote class ≡ remote)
    × (¬ Carries format class payload)
