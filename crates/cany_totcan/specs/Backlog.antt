-- The messages that a node was given to send, and what became of its messages.
use Rattle.std.specs.Prelude.{ℕ, ◌+◌, ◌-◌, ◌≤◌, ◌<◌, ◌==◌, ◌&&◌, Bool, true, false, nat_le, nat_lt, if◌then◌else◌, List, length, Option, Some, None, slice_get, slice_index_or, slice_set}
use Rattle.std.specs.List.{AllByRecursion}
use Rattle.cany_totcan.specs.declared.backlog.Given.{Given}
use Rattle.cany_totcan.specs.declared.backlog.OwnMessage.{OwnMessage}

-- the messages in the order in which they were given, how many there may be, how many of them were
-- asked for, and what became of each message of the node, by sequence number
pub record BacklogParts : Type 0 where
  pub given : List Given
  pub room : ℕ
  pub asked : ℕ
  pub own : List OwnMessage

abbrev pub blank : OwnMessage
blank = record { asked = false; sent = false; place = None }

abbrev pub own_at : List OwnMessage → ℕ → OwnMessage
own_at own seq = slice_index_or own seq blank

-- whether the data frame was asked for: of no message that is not the node's
abbrev pub is_asked : List OwnMessage → ℕ → Bool
is_asked own seq = (own_at own seq).asked

-- what was given are messages of the node, and no more were asked for
pub record IsKept (given : List Given) (asked : ℕ) (own : List OwnMessage) : Type 0 where
  pub messages : AllByRecursion (λ g. g.seq < length own) given
  pub some : asked ≤ length given

-- whether so many slots have passed since the place, in the turn of this slot
abbrev pub is_past : ℕ → ℕ → Option ℕ → Bool
is_past now slots None = true
is_past now slots (Some place) = nat_le (place + slots) now

-- whether another message may be asked for after this one
abbrev pub is_free_after : ℕ → ℕ → List OwnMessage → Option Given → Bool
is_free_after now spacing own None = true
is_free_after now spacing own (Some last) = (own_at own last.seq).sent && is_past now spacing (own_at own last.seq).place

abbrev pub last_asked : BacklogParts → Option Given
last_asked v = if v.asked == 0 then None else slice_get v.given (v.asked - 1)

abbrev pub is_free : ℕ → ℕ → BacklogParts → Bool
is_free now spacing v = is_free_after now spacing v.own (last_asked v)

-- the message that is asked for in the turn of this slot
abbrev pub next_given : ℕ → ℕ → BacklogParts → Option Given
next_given now spacing v = if nat_lt v.asked (length v.given) && is_free now spacing v then slice_get v.given v.asked else None

abbrev pub marked : List OwnMessage → ℕ → List OwnMessage
marked own seq = slice_set own seq (record (own_at own seq) { asked = true })

abbrev pub with_asked : BacklogParts → Option Given → BacklogParts
with_asked v None = v
with_asked v (Some g) = record v { asked = v.asked + 1; own = marked v.own g.seq }

abbrev pub after_next : ℕ → ℕ → BacklogParts → BacklogParts
after_next now spacing v = with_asked v (next_given now spacing v)
