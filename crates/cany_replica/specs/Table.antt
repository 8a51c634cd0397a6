-- A table from keys of one byte to values of a few bytes, what the payload of a message asks of it,
-- and the reply.
use Rattle.std.specs.Prelude.{ℕ, ◌==◌, ◌&&◌, Bool, false, if◌then◌else◌, List, [], ◌∷◌, length, replicate, slice_index, slice_index_or, slice_set, Option, Some, None, is_some}
use Rattle.std.specs.Str.{bytes_eq}
use Rattle.cany_replica.specs.declared.change.Change.{Change}
use Rattle.cany_replica.specs.declared.change.Change.TheVariants.{Store, Remove, Swap, Nothing}
use Rattle.cany_replica.specs.declared.reply.Reply.{Reply}
use Rattle.cany_replica.specs.declared.reply.Reply.TheVariants.{Stored, Removed, Absent, Swapped, Kept, Ignored}

-- for each key, from 0 to 255, the value that it has, if it has one
abbrev pub TableParts : Type 0
TableParts = List (Option (List ℕ))

-- no key has a value
abbrev pub empty_table : TableParts
empty_table = replicate 256 None

abbrev pub value_at : TableParts → ℕ → Option (List ℕ)
value_at table key = slice_index_or table key None

abbrev pub with_value : TableParts → ℕ → Option (List ℕ) → TableParts
with_value table key value = slice_set table key value

-- What a payload asks for: `01` and a key and any bytes, that the key has these bytes; `02` and a
-- key, that it has no value; `03`, a key and two bytes, that the key has the second one where it
-- has exactly the first. Any other payload asks for nothing.
unfoldable pub change_of : List ℕ → Change
change_of [] = Nothing
change_of (code ∷ []) = Nothing
change_of (code ∷ key ∷ bytes) =
    if code == 1 then Store key bytes
    else if code == 2 && length bytes == 0 then Remove key
    else if code == 3 && length bytes == 2 then Swap key (slice_index bytes 0) (slice_index bytes 1)
    else Nothing

-- whether a key has exactly this byte
abbrev pub is_byte : ℕ → Option (List ℕ) → Bool
is_byte byte None = false
is_byte byte (Some value) = bytes_eq value (byte ∷ [])

-- the table after a change, and the reply to it
unfoldable pub make_change : TableParts → Change → TableParts × Reply
make_change table (Store key value) = (with_value table key (Some value), Stored)
make_change table (Remove key) = (with_value table key None, if is_some (value_at table key) then Removed else Absent)
make_change table (Swap key from to) =
    if is_byte from (value_at table key) then (with_value table key (Some (to ∷ [])), Swapped) else (table, Kept)
make_change table Nothing = (table, Ignored)

-- the table after a payload, and the reply to it
abbrev pub apply : TableParts → List ℕ → TableParts × Reply
apply table payload = make_change table (change_of payload)
