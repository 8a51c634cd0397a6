-- What EDCAN does with a data frame, from the copies that it has.
use Rattle.std.specs.Prelude.{◌==◌, ◌&&◌, ◌||◌, Bool, nat_lt}
use Rattle.cany_base.specs.Frame.{FrameParts}
use Rattle.cany_diffuse.specs.Eager.{copies_of, is_held}
use Rattle.cany_message.specs.Numbers.{frame_number}
use Rattle.cany_edcan.specs.Edcan.{EdcanParts}

-- whether the node delivered the message of the frame: it got a copy, or it is the origin and has
-- sent the frame
abbrev pub was_delivered : EdcanParts → FrameParts → Bool
was_delivered v f = nat_lt 0 (copies_of v.copies (frame_number f)) || (f.node == v.node && is_held v.copies (frame_number f))

-- whether the node is the origin of the frame and has noted a copy or its own transmission
abbrev pub holds_own : EdcanParts → FrameParts → Bool
holds_own v f = f.node == v.node && is_held v.copies (frame_number f)
