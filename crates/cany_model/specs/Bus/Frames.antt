-- Identities of frames, and the order in which frames win arbitration.
use Rattle.std.specs.Prelude.{ℕ, Bool, not, ◌==◌, ◌&&◌, nat_lt, if◌then◌else◌, []}
use Rattle.std.specs.Str.{bytes_eq}
use Rattle.cany_base.specs.declared.class.Class.{Class}
use Rattle.cany_base.specs.Frame.{FrameParts, class_number}

-- what names a frame
pub record Identity : Type 0 where
  pub class : Class
  pub number : ℕ
  pub node : ℕ

abbrev pub identity_of : FrameParts → Identity
identity_of f = record { class = f.class; number = f.number; node = f.node }

-- a frame of this identity, without payload
abbrev pub bare : Identity → FrameParts
bare x = record { class = x.class; number = x.number; node = x.node; inc = 0; payload = [] }

unfoldable pub same_class : Class → Class → Bool
same_class a b = class_number a == class_number b

unfoldable pub same_identity : Identity → Identity → Bool
same_identity a b = same_class a.class b.class && a.number == b.number && a.node == b.node

-- whether the frame has this identity
abbrev pub is_of : Identity → FrameParts → Bool
is_of x f = same_identity x (identity_of f)

unfoldable pub same_frame : FrameParts → FrameParts → Bool
same_frame a b = same_identity (identity_of a) (identity_of b) && a.inc == b.inc && bytes_eq a.payload b.payload

-- by class, then number, then node, then incarnation: the smaller wins arbitration
unfoldable pub is_before : FrameParts → FrameParts → Bool
is_before a b =
    if not (same_class a.class b.class) then nat_lt (class_number a.class) (class_number b.class)
    else if not (a.number == b.number) then nat_lt a.number b.number
    else if not (a.node == b.node) then nat_lt a.node b.node
    else nat_lt a.inc b.inc
