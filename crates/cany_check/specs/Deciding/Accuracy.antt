-- Accuracy: no node that ran all the time was taken for failed.
use Rattle.std.specs.Prelude.{ℕ, ◌==◌, Bool, false, List, filter, filter_map, Option, option_map}
use Rattle.std.specs.List.{list_any}
use Rattle.cany_base.specs.declared.log_entry.LogEntry.{LogEntry}
use Rattle.cany_base.specs.declared.log_entry.LogEntry.TheVariants.{Deliver, Failed, View}
use Rattle.cany_check.specs.declared.deciders.findings.Accusation.{Accusation}
use Rattle.cany_check.specs.Accounts.Account.{AccountParts, LogParts}
use Rattle.cany_check.specs.Deciding.Fates.{slots_where}
use Rattle.cany_check.specs.Accounts.Words.{correct, nodes_of, takes_part}

abbrev pub is_failure_of : ℕ → LogEntry → Bool
is_failure_of r (Deliver slot service msg payload) = false
is_failure_of r (Failed slot node cycle) = node == r
is_failure_of r (View slot number members) = false

-- whether an entry of the log says that the node failed
abbrev pub accuses : ℕ → LogParts → Bool
accuses r log = list_any (is_failure_of r) log.entries

-- the correct nodes that took this one for failed
abbrev pub accusers : AccountParts → ℕ → List LogParts
accusers a r = filter (accuses r) (correct a)

abbrev pub accusation_of : AccountParts → LogParts → Option Accusation
accusation_of a log =
    option_map (λ slots. record { node = log.node; by = nodes_of (accusers a log.node); first = slots.first }) (slots_where (is_failure_of log.node) (accusers a log.node))

-- those of the correct nodes that take part since slot 0, ascending
abbrev pub accusations : AccountParts → List Accusation
accusations a = filter_map (accusation_of a) (filter (takes_part 0) (correct a))
