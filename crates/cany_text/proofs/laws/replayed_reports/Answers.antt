-- The laws are lemmas on every scenario and journal.
use Rattle.cany_text.proofs.SameRunBus.{same_run}
use Rattle.cany_text.proofs.SameRunReport.{gives_report_again}
use Rattle.cany_text.proofs.laws.replayed_reports.Goals as goal

pub returns : goal.returns
returns c = record { same_run = same_run; again = gives_report_again }
