-- What the head of a verdict counts, as the code counts it.
use Rattle.std.specs.Prelude.{ℕ, min, max, Bool, false, if◌then◌else◌, List, count_by, length, map, Option, Some, None}
use Rattle.cany_base.specs.declared.log_entry.LogEntry.{LogEntry}
use Rattle.cany_base.specs.declared.log_entry.LogEntry.TheVariants.{Deliver, Failed as AsFailed, View}
use Rattle.cany_base.specs.declared.message.Service.TheVariants.{Tot}
use Rattle.cany_model.specs.Rules.Messages.{is_service}
use Rattle.cany_check.specs.declared.text.counts.FateCounts.{FateCounts}
use Rattle.cany_check.specs.declared.text.counts.Lengths.{Lengths}
use Rattle.cany_check.specs.declared.deciders.findings.Fate.{Fate}
use Rattle.cany_check.specs.declared.deciders.findings.Fate.TheVariants.{All, Nobody, Apart, Open}
use Rattle.cany_check.specs.Accounts.Account.{LogParts, running}
use Rattle.cany_check.specs.Texts.CheckHead.{greatest, is_all, is_none_of, least}
use Rattle.cany_check.specs.Deciding.OneOrder.{deliveries}
use Rattle.cany_check.specs.Deciding.Verdict.{is_apart, is_open}

abbrev pub is_fate : Fate → Fate → Bool
is_fate All f = is_all f
is_fate Nobody f = is_none_of f
is_fate Apart f = is_apart f
is_fate Open f = is_open f

abbrev pub fate_count : Fate → List Fate → ℕ
fate_count wanted fates = count_by (is_fate wanted) fates

abbrev pub counts_of : List Fate → FateCounts
counts_of fates = record {
  all = fate_count All fates;
  nobody = fate_count Nobody fates;
  apart = fate_count Apart fates;
  unsettled = fate_count Open fates;
}

-- whether an entry of a log delivers a message by TOTCAN
abbrev pub is_tot_delivery : LogEntry → Bool
is_tot_delivery (Deliver slot service msg payload) = is_service service Tot
is_tot_delivery (AsFailed slot node cycle) = false
is_tot_delivery (View slot number members) = false

-- these lengths, and one more
abbrev pub with_length : Option Lengths → ℕ → Option Lengths
with_length None n = Some (record { shortest = n; longest = n })
with_length (Some lengths) n = Some (record { shortest = min n lengths.shortest; longest = max n lengths.longest })

-- with that of the log, if it runs
abbrev pub with_log : Option Lengths → LogParts → Option Lengths
with_log lengths log = if log.runs then with_length lengths (length (deliveries log)) else lengths

-- how many messages each of the running logs delivers by TOTCAN
abbrev pub running_counts : List LogParts → List ℕ
running_counts logs = map (λ log. length (deliveries log)) (running logs)

abbrev pub lengths_of : List ℕ → Lengths
lengths_of counts = record { shortest = least counts; longest = greatest counts }
