-- Where the message of a key stands among the messages of an account.
use Rattle.std.specs.Prelude.{◌≡◌, ◌<◌, ◌+◌, ℕ, List, [], ◌∷◌, if◌then◌else◌, Vec, Option, Some, length, map, take, slice_get, slice_index_or}
use Rattle.std.specs.Global.{Global}
use Rattle.std.specs.List.{position}
use Rattle.cany_base.specs.declared.message.MsgKey.{MsgKey}
use Rattle.cany_base.specs.Limits.{most_nodes}
use Rattle.cany_check.specs.declared.account.record.MessageRecord.{MessageRecord}
use Rattle.cany_check.specs.Accounts.Orderly.{IsNextAfter, is_of_origin}
use Rattle.cany_check.specs.Accounts.Words.{same_key}

-- of each origin the messages have the sequence numbers 0, 1, 2 and so on
abbrev pub AreNumbered : List MessageRecord → Type 0
AreNumbered messages = (k : ℕ) (m : MessageRecord) → slice_get messages k ≡ Some m → IsNextAfter (take k messages) m

-- the place of the first message that has this key
abbrev pub place_of : MsgKey → List MessageRecord → Option ℕ
place_of key messages = position (λ m. same_key m.key key) messages

-- ---- as a table keeps them

-- the places of the messages of an origin, where the first of all stands at this place
unfoldable pub places_from : (origin place : ℕ) → List MessageRecord → List ℕ
places_from origin place [] = []
places_from origin place (m ∷ messages) =
    if is_of_origin origin m then place ∷ places_from origin (place + 1) messages else places_from origin (place + 1) messages

abbrev pub lists_of : List (Vec ℕ Global) → List (List ℕ)
lists_of rows = map (λ row. row.items) rows

-- there is a row for each origin, and it has the places of its messages
pub record AreRows (messages : List MessageRecord) (rows : List (List ℕ)) : Type 0 where
  pub number : length rows ≡ most_nodes
  pub each : (origin : ℕ) → origin < most_nodes → slice_index_or rows origin [] ≡ places_from origin 0 messages
