-- Who has what entries of logs tell of: a message, a failure sign, or that a node failed.
use Rattle.std.specs.Prelude.{◌≡◌, ◌<◌, ◌==◌, ◌&&◌, ℕ, Bool, true, false, if◌then◌else◌, List, filter, length, slice_get, Option, None, Some, IfSome}
use Rattle.std.specs.List.{list_any}
use Rattle.std.specs.Option.{option_map_or}
use Rattle.cany_base.specs.declared.log_entry.LogEntry.{LogEntry}
use Rattle.cany_base.specs.Nodes.{nobody, with_node}
use Rattle.cany_check.specs.declared.deciders.holders.Holders.{Holders}
use Rattle.cany_check.specs.Accounts.Account.{LogParts}
use Rattle.cany_check.specs.Deciding.Fates.{slots_where, with_slot}
use Rattle.cany_check.specs.Accounts.Words.{nodes_of, takes_part}

-- whether the log is that of a node that counts, where a node has to take part since this slot
abbrev pub counts_since : Option ℕ → LogParts → Bool
counts_since since log = log.runs && option_map_or (λ slot. takes_part slot log) since true

-- whether an entry of the log tells of it
abbrev pub tells_in : (LogEntry → Bool) → LogParts → Bool
tells_in tells log = list_any tells log.entries

-- who has it by these logs: of those that count the nodes whose logs tell of it, the nodes of which
-- some log does, and the slots of the entries by which the logs of the former do
unfoldable pub holders_in : (tells : LogEntry → Bool) (since : Option ℕ) → List LogParts → Holders
holders_in tells since logs = record {
  has = nodes_of (filter (tells_in tells) (filter (counts_since since) logs));
  had = nodes_of (filter (tells_in tells) logs);
  slots = slots_where tells (filter (tells_in tells) (filter (counts_since since) logs));
}

-- ---- several, each under an index

-- whether this one is found
abbrev pub is_found : ℕ → Option ℕ → Bool
is_found k None = false
is_found k (Some index) = k == index

-- of those below the number the test holds of the one that is found, and of no other
pub record IsOnly (number : ℕ) (test : ℕ → Bool) (found : Option ℕ) : Type 0 where
  pub within : IfSome found (λ index. index < number)
  pub only : (k : ℕ) → k < number → test k ≡ is_found k found

-- these are the holders of each, by these logs
pub record AreHolders (number : ℕ) (tells : ℕ → LogEntry → Bool) (since : ℕ → Option ℕ) (logs : List LogParts) (holders : List Holders) : Type 0 where
  pub count : length holders ≡ number
  pub each : (k : ℕ) → k < number → slice_get holders k ≡ Some (holders_in (tells k) (since k) logs)

-- of none of them a node has to take part since a slot
abbrev pub since_ever : ℕ → Option ℕ
since_ever k = None

-- ---- one entry after another

-- the log, with these entries alone
abbrev pub log_with : LogParts → List LogEntry → LogParts
log_with log entries = record { node = log.node; from = log.from; runs = log.runs; entries = entries }

-- with one more entry of the log, which tells of it
abbrev pub with_entry : Holders → Option ℕ → LogParts → ℕ → Holders
with_entry holders since log slot = record {
  has = if counts_since since log then with_node log.node holders.has else holders.has;
  had = with_node log.node holders.had;
  slots = if counts_since since log then with_slot holders.slots slot else holders.slots;
}

abbrev pub no_holders : Holders
no_holders = record { has = nobody; had = nobody; slots = None }
