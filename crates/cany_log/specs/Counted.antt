-- How many log entries there are of each kind, as the code counts them.
use Rattle.std.specs.Prelude.{ℕ, ◌≤◌, List, count_by}
use Rattle.cany_base.specs.declared.log_entry.LogEntry.{LogEntry}
use Rattle.cany_log.specs.declared.entry_counts.EntryCounts.{EntryCounts}
use Rattle.cany_log.specs.Summary.{is_delivery, is_failure, is_view}

abbrev pub counts_of : List LogEntry → EntryCounts
counts_of entries = record {
  deliveries = count_by is_delivery entries;
  failures = count_by is_failure entries;
  views = count_by is_view entries;
}

abbrev pub AreAtMost : ℕ → EntryCounts → Type 0
AreAtMost n counts = (counts.deliveries ≤ n) × (counts.failures ≤ n) × (counts.views ≤ n)
