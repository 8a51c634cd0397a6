-- The messages of an account, as what entries of logs tell of: each under its place.
use Rattle.std.specs.Prelude.{ℕ, Bool, false, List, slice_get, Option, None, option_map}
use Rattle.std.specs.Option.{option_map_or}
use Rattle.cany_base.specs.declared.log_entry.LogEntry.{LogEntry}
use Rattle.cany_base.specs.declared.log_entry.LogEntry.TheVariants.{Deliver, Failed, View}
use Rattle.cany_check.specs.declared.account.record.MessageRecord.{MessageRecord}
use Rattle.cany_check.specs.Accounts.Places.{place_of}
use Rattle.cany_check.specs.Accounts.Words.{is_delivery, since}

-- whether the entry delivers the message at the place
abbrev pub delivers_at : List MessageRecord → ℕ → LogEntry → Bool
delivers_at messages place entry = option_map_or (λ m. is_delivery m entry) (slice_get messages place) false

-- the slot since which a node has to take part to count for it
abbrev pub since_at : List MessageRecord → ℕ → Option ℕ
since_at messages place = option_map since (slice_get messages place)

-- the place of the first message of which the entry has the key
abbrev pub place_named : List MessageRecord → LogEntry → Option ℕ
place_named messages (Deliver slot service msg payload) = place_of msg messages
place_named messages (Failed slot node cycle) = None
place_named messages (View slot number members) = None
