-- The open messages of a node, in the order of their places.
use Rattle.std.specs.Prelude.{◌≡◌, ℕ, ◌+◌, ◌-◌, ◌≤◌, ◌<◌, ◌==◌, ◌&&◌, Bool, true, false, not, if◌then◌else◌, List, [], ◌∷◌, ◌++◌, drop, filter, length, take, Option, Some, None}
use Rattle.std.specs.List.{AllByRecursion, HoldsAt, list_any}
use Rattle.cany_base.specs.declared.message.MsgKey.{MsgKey}
use Rattle.cany_base.specs.declared.notice.NoticeKind.{NoticeKind}
use Rattle.cany_base.specs.Frame.{FrameParts}
use Rattle.cany_model.specs.Rules.Totcan.{is_place, message_in, tot_in}
use Rattle.cany_totcan.specs.declared.queue.Placed.{Placed}
use Rattle.cany_totcan.specs.MessageSet.{MessageSetParts, has_message}

-- those that are open, the oldest place first; how many of them, from the first on, are done; how
-- many there may be; and the number that theirs are below
pub record OpenParts : Type 0 where
  pub items : List Placed
  pub done : ℕ
  pub room : ℕ
  pub numbers : ℕ

abbrev pub is_at : MsgKey → Placed → Bool
is_at key x = key.seq == x.frame.number && key.origin == x.frame.node

abbrev pub without_key : MsgKey → List Placed → List Placed
without_key key items = filter (λ x. not (is_at key x)) items

-- no two are of one message
abbrev pub AreOnce : List Placed → Type 0
AreOnce [] = Unit {0}
AreOnce (x ∷ items) = (list_any (is_at (message_in x.frame)) items ≡ false) × AreOnce items

-- each has a place before those that follow
abbrev pub AreAscending : List Placed → Type 0
AreAscending [] = Unit {0}
AreAscending (x ∷ items) = AllByRecursion (λ y. x.place < y.place) items × AreAscending items

-- the set has the messages, and no others
abbrev pub IsSetOf : List Placed → MessageSetParts → Type 0
IsSetOf items set = (seq origin : ℕ) → has_message set seq origin ≡ list_any (is_at (record { origin = origin; seq = seq })) items

-- what is true of the messages and of the memory that holds them
pub record IsKept (items : List Placed) (done room capacity : ℕ) (set : MessageSetParts) : Type 0 where
  pub once : AreOnce items
  pub ascending : AreAscending items
  pub there : done ≤ length items
  pub in_room : length items ≤ room
  pub reserved : room ≤ capacity
  pub is_set : IsSetOf items set

-- the message stands at this index
pub record IsIndexOf (key : MsgKey) (index : ℕ) (items : List Placed) : Type 0 where
  pub within : index < length items
  pub is : HoldsAt (λ x. is_at key x ≡ true) items index

-- without the message, which may have been one of those that are done
abbrev pub is_removed : MsgKey → OpenParts → OpenParts
is_removed key v = record v { items = without_key key v.items; done = length (without_key key (take v.done v.items)) }

-- with the message of this frame at the end
abbrev pub moved : FrameParts → ℕ → OpenParts → OpenParts
moved f slot v = record (is_removed (message_in f) v) { items = without_key (message_in f) v.items ++ record { frame = f; place = slot } ∷ [] }

-- the frame of the oldest, if its place is this slot, and the messages without it
abbrev pub oldest_from : ℕ → List Placed → Option FrameParts
oldest_from slot [] = None
oldest_from slot (x ∷ items) = if x.place == slot then Some x.frame else None

-- without the oldest
abbrev pub without_first : OpenParts → OpenParts
without_first v = record v { items = drop 1 v.items; done = v.done - 1 }

abbrev pub without_oldest_from : ℕ → OpenParts → List Placed → OpenParts
without_oldest_from slot v [] = v
without_oldest_from slot v (x ∷ items) = if x.place == slot then record v { items = items; done = v.done - 1 } else v

abbrev pub without_oldest : ℕ → OpenParts → OpenParts
without_oldest slot v = without_oldest_from slot v v.items

-- ---- what was read

-- the message of this data frame, which came in a notice that so many newer ones follow, at its
-- place
abbrev pub placed_at : List NoticeKind → ℕ → Option FrameParts → List Placed
placed_at past age None = []
placed_at past age (Some f) =
    if is_place age past (message_in f) then record { frame = f; place = length past - (age + 1) } ∷ [] else []

-- the messages whose places are among these notices, the first of which has this age: the oldest
-- place first
unfoldable pub placed_from : List NoticeKind → ℕ → List NoticeKind → List Placed
placed_from past age [] = []
placed_from past age (notice ∷ older) = placed_from past (age + 1) older ++ placed_at past age (tot_in notice)

-- those whose places are among so many newest notices
abbrev pub placed_in : ℕ → List NoticeKind → List Placed
placed_in newest past = placed_from past 0 (take newest past)
