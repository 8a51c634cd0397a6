-- The waiting frames of a controller: a list in the order of frames, at most one of an identity.
use Rattle.std.specs.Prelude.{Bool, not, if◌then◌else◌, List, [], ◌∷◌, filter}
use Rattle.std.specs.List.{list_any}
use Rattle.cany_base.specs.Frame.{FrameParts}
use Rattle.cany_model.specs.Bus.Frames.{Identity, identity_of, is_of, same_frame, is_before}

-- whether a frame of this identity waits
abbrev pub waits : Identity → List FrameParts → Bool
waits x waiting = list_any (is_of x) waiting

-- whether this very frame waits
abbrev pub waits_with : FrameParts → List FrameParts → Bool
waits_with f waiting = list_any (same_frame f) waiting

abbrev pub without : Identity → List FrameParts → List FrameParts
without x waiting = filter (λ f. not (is_of x f)) waiting

unfoldable pub put_in_order : FrameParts → List FrameParts → List FrameParts
put_in_order f [] = f ∷ []
put_in_order f (g ∷ waiting) = if is_before f g then f ∷ (g ∷ waiting) else g ∷ put_in_order f waiting

-- a frame is asked for: it waits, in place of one of the same identity
abbrev pub with_frame : FrameParts → List FrameParts → List FrameParts
with_frame f waiting = put_in_order f (without (identity_of f) waiting)
