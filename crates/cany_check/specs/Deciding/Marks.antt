-- Which messages the entries of a log deliver, as marks have it.
use Rattle.std.specs.Prelude.{◌≡◌, ◌<◌, ◌≤◌, ◌==◌, ℕ, List, length, slice_get, slice_index, Some}
use Rattle.std.specs.List.{list_any}
use Rattle.cany_base.specs.declared.log_entry.LogEntry.{LogEntry}
use Rattle.cany_model.specs.Promises.Entries.{delivers_key}
use Rattle.cany_check.specs.declared.account.record.MessageRecord.{MessageRecord}

-- a mark for each message is this number exactly where one of these entries delivers the key of the
-- message, and none is above it
pub record AreMarked (messages : List MessageRecord) (number : ℕ) (entries : List LogEntry) (marks : List ℕ) : Type 0 where
  pub count : length marks ≡ length messages
  pub exact : (k : ℕ) (m : MessageRecord) → slice_get messages k ≡ Some m → (slice_index marks k == number) ≡ list_any (delivers_key m.key) entries
  pub most : (k : ℕ) → slice_index marks k ≤ number

-- a mark for each message is below this number
pub record AreBelow (messages : List MessageRecord) (number : ℕ) (marks : List ℕ) : Type 0 where
  pub count : length marks ≡ length messages
  pub below : (k : ℕ) → slice_index marks k < number
