-- The frame that is made of an identifier's fields is the one frame that it stands for.
use Rattle.std.proofs.Common.{◌≡◌, ℕ, ◌%◌, ◌^◌, Bool, List, refl, sym, ◌∙◌, arith}
use Rattle.cany_base.specs.declared.format.Format.{Format}
use Rattle.cany_base.specs.declared.format.Format.TheVariants.{One, Two}
use Rattle.cany_base.specs.Frame.{FrameParts, FitsIncarnation, identifier_of, is_remote}
use Rattle.cany_base.specs.Layout.{layout}
use Rattle.can_frame.specs.Decoding.{Carries, IsFrameOf, IsClassOf}
use Rattle.can_frame.specs.Field.{field_of}
use Rattle.can_frame.specs.Identifier.{FitsFormat}
use Rattle.can_frame.proofs.IdentityFacts.{identifiers_tell}

pub one_frame : (format : Format) (ident : ℕ) (remote : Bool) (payload : List ℕ) (f g : FrameParts)
    → IsFrameOf format ident remote payload f → IsFrameOf format ident remote payload g → f ≡ g
one_frame format ident remote payload f g hf hg =
    let agree = (identifiers_tell format f g (hf.fits, hf.inc) (hg.fits, hg.inc)).0 (hf.identifier ∙ sym hg.identifier) in
    λ i. record {
      class = agree.0.class i;
      number = agree.0.number i;
      node = agree.0.node i;
      inc = agree.1 i;
      payload = (hf.bytes ∙ sym hg.bytes) i;
    }

-- number and node stand in an identifier
abbrev pub AreFieldsOf : Format → ℕ → ℕ → ℕ → Type 0
AreFieldsOf format ident number node =
    (number ≡ field_of (layout format).number_shift (layout format).number_width ident)
    × (node ≡ field_of (layout format).node_shift (layout format).node_width ident)

fields_fit : (format : Format) (f : FrameParts) (ident : ℕ) → AreFieldsOf format ident f.number f.node → FitsFormat format f
fields_fit One f ident fields = (omega arith, omega arith)
fields_fit Two f ident fields = (omega arith, omega arith)

identifier_back : (format : Format) (f : FrameParts) (ident : ℕ) → IsClassOf f.class ident → f.inc ≡ ident % 2 ^ 4 → AreFieldsOf format ident f.number f.node → identifier_of format f ≡ ident
identifier_back One f ident class inc fields = omega arith
identifier_back Two f ident class inc fields = omega arith

pub made : (format : Format) (ident : ℕ) (remote : Bool) (f : FrameParts) → IsClassOf f.class ident → f.inc ≡ ident % 2 ^ 4 → FitsIncarnation f.class f.inc
    → is_remote f.class ≡ remote → Carries format f.class f.payload → AreFieldsOf format ident f.number f.node
    → IsFrameOf format ident remote f.payload f
made format ident remote f class inc told kind carries fields = record {
  inc = told;
  carries = carries;
  fits = fields_fit format f ident fields;
  identifier = identifier_back format f ident class inc fields;
  kind = kind;
  bytes = refl;
}
