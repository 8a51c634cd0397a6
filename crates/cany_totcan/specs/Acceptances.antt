-- What a node notes of the frames that accept its open messages.
use Rattle.std.specs.Prelude.{◌≡◌, ◌==◌, ◌&&◌, Bool, true, false, if◌then◌else◌, List, [], ◌∷◌, map}
use Rattle.cany_base.specs.declared.message.MsgKey.{MsgKey}
use Rattle.cany_diffuse.specs.Eager.{raised}
use Rattle.cany_totcan.specs.declared.queue.Noted.{Noted}
use Rattle.cany_totcan.specs.declared.queue.Open.{Open}
use Rattle.cany_totcan.specs.declared.queue.Placed.{Placed}
use Rattle.cany_totcan.specs.Queue.{OpenParts, is_at}

-- the open messages, and each with what is noted of it
pub record RingParts : Type 0 where
  pub messages : OpenParts
  pub entries : List Open

abbrev pub placed_of : List Open → List Placed
placed_of entries = map (λ e. e.placed) entries

-- nothing was read
abbrev pub nothing : Noted
nothing = record { copies = 0; owned = false }

-- what is noted of a message: nothing of one that is not open
unfoldable pub noted_of : List Open → MsgKey → Noted
noted_of [] key = nothing
noted_of (x ∷ entries) key = if is_at key x.placed then x.noted else noted_of entries key

abbrev pub is_same : MsgKey → MsgKey → Bool
is_same a b = a.seq == b.seq && a.origin == b.origin

-- one copy more, and the node's own transmission
abbrev pub with_copy : Noted → Noted
with_copy n = record n { copies = raised n.copies }

abbrev pub with_own : Noted → Noted
with_own n = record n { owned = true }

abbrev pub forgotten : Noted → Noted
forgotten n = nothing

-- what is noted of the message becomes this, and of no other does it change
pub record IsNoted (change : Noted → Noted) (key : MsgKey) (old new : List Open) : Type 0 where
  pub noted : (q : MsgKey) → noted_of new q ≡ (if is_same q key then change (noted_of old q) else noted_of old q)
