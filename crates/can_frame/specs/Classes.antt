-- What the frames of a class tell of the site, and the class that stands in an identifier.
use Rattle.std.specs.Prelude.{ℕ, ◌/◌, ◌^◌, Bool, true, false, List, [], ◌∷◌, Option, slice_get}
use Rattle.std.specs.Option.{option_map_or}
use Rattle.cany_base.specs.declared.class.Class.{Class}
use Rattle.cany_base.specs.declared.class.Class.TheVariants.{Accept, Rha, Els, Fda, Join, Leave, Confirm, Tot, Rel, Ed}
use Rattle.cany_base.specs.Frame.{has_incarnation}

-- whether a frame of the class shows that the node lives which it names
abbrev pub shows_life : Class → Bool
shows_life Accept = false
shows_life Rha = true
shows_life Els = true
shows_life Fda = false
shows_life Join = false
shows_life Leave = false
shows_life Confirm = false
shows_life Tot = true
shows_life Rel = false
shows_life Ed = false

-- whether a frame of the class tells of the site: who lives, who has failed, who asks to join or to
-- leave, or a vector
abbrev pub is_of_site : Class → Bool
is_of_site Accept = false
is_of_site Rha = true
is_of_site Els = true
is_of_site Fda = true
is_of_site Join = true
is_of_site Leave = true
is_of_site Confirm = false
is_of_site Tot = true
is_of_site Rel = false
is_of_site Ed = false

-- the classes, each at the place of its number
abbrev pub classes : List Class
classes = Accept ∷ Rha ∷ Els ∷ Fda ∷ Join ∷ Leave ∷ Confirm ∷ Tot ∷ Rel ∷ Ed ∷ []

-- the class that stands in an identifier, if one does
unfoldable pub class_in : ℕ → Option Class
class_in ident = slice_get classes (ident / 2 ^ 25)

-- whether it is one whose frames tell the incarnation of their sender
abbrev pub tells_incarnation : ℕ → Bool
tells_incarnation ident = option_map_or has_incarnation (class_in ident) false
