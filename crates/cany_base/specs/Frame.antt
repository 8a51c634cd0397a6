-- A frame, the class table, and where its fields lie in the identifier.
use Rattle.std.specs.Prelude.{◌≡◌, ◌<◌, ◌⊎◌, ℕ, ◌+◌, ◌*◌, ◌^◌, Bool, true, false, if◌then◌else◌, List, [], length}
use Rattle.cany_base.specs.declared.class.Class.{Class}
use Rattle.cany_base.specs.declared.class.Class.TheVariants.{Accept, Rha, Els, Fda, Join, Leave, Confirm, Tot, Rel, Ed}
use Rattle.cany_base.specs.declared.format.Format.{Format}
use Rattle.cany_base.specs.declared.format.Format.TheVariants.{One, Two}
use Rattle.cany_base.specs.declared.message.Service.{Service}
use Rattle.cany_base.specs.declared.message.Service.TheVariants as service
use Rattle.cany_base.specs.Layout.{layout}

pub record FrameParts : Type 0 where
  pub class : Class
  pub number : ℕ
  pub node : ℕ
  pub inc : ℕ
  pub payload : List ℕ

-- the number of a class in the identifier
abbrev pub class_number : Class → ℕ
class_number Accept = 0
class_number Rha = 1
class_number Els = 2
class_number Fda = 3
class_number Join = 4
class_number Leave = 5
class_number Confirm = 6
class_number Tot = 7
class_number Rel = 8
class_number Ed = 9

-- whether the frames of a class are remote frames
abbrev pub is_remote : Class → Bool
is_remote Rha = false
is_remote Tot = false
is_remote Rel = false
is_remote Ed = false
is_remote Accept = true
is_remote Els = true
is_remote Fda = true
is_remote Join = true
is_remote Leave = true
is_remote Confirm = true

-- the bytes that a frame of a class carries: none in a remote frame, those of a format in a vector
abbrev pub FitsClass : Class → List ℕ → Type 0
FitsClass Rha payload = (length payload ≡ (layout One).vector) ⊎ (length payload ≡ (layout Two).vector)
FitsClass Tot payload = Unit {0}
FitsClass Rel payload = Unit {0}
FitsClass Ed payload = Unit {0}
FitsClass Accept payload = payload ≡ []
FitsClass Els payload = payload ≡ []
FitsClass Fda payload = payload ≡ []
FitsClass Join payload = payload ≡ []
FitsClass Leave payload = payload ≡ []
FitsClass Confirm payload = payload ≡ []

-- whether a frame of the class tells the incarnation of its sender
abbrev pub has_incarnation : Class → Bool
has_incarnation Rha = true
has_incarnation Els = true
has_incarnation Join = true
has_incarnation Leave = true
has_incarnation Accept = false
has_incarnation Fda = false
has_incarnation Confirm = false
has_incarnation Tot = false
has_incarnation Rel = false
has_incarnation Ed = false

-- the incarnations that a frame of the class can tell: one that tells none has a 0 there
abbrev pub FitsIncarnation : Class → ℕ → Type 0
FitsIncarnation class inc = inc < (if has_incarnation class then 2 ^ 4 else 1)

-- what is true of every frame
abbrev pub IsFormed : Class → ℕ → List ℕ → Type 0
IsFormed class inc payload = FitsIncarnation class inc × FitsClass class payload

-- the class of a message's data frame
abbrev pub data_class : Service → Class
data_class service.Ed = Ed
data_class service.Rel = Rel
data_class service.Tot = Tot

-- class in bits 28 to 25, number and node in the fields of the format, the incarnation in bits 3 to
-- 0
abbrev pub identifier_of : Format → FrameParts → ℕ
identifier_of format f =
    class_number f.class * 2 ^ 25 + f.number * 2 ^ (layout format).number_shift + f.node * 2 ^ (layout format).node_shift + f.inc

-- class, number and node, which name a frame, are the same
pub record SameIdentity (f g : FrameParts) : Type 0 where
  pub class : f.class ≡ g.class
  pub number : f.number ≡ g.number
  pub node : f.node ≡ g.node

-- the smaller key wins arbitration: of one identifier a data frame beats a remote frame
abbrev pub key_of : Format → FrameParts → ℕ
key_of format f = 2 * identifier_of format f + (if is_remote f.class then 1 else 0)
