use Rattle.std.proofs.Common.{◌+◌, ◌*◌, ◌≤◌, length}
use Rattle.std.specs.List.{range_with_len}
use Rattle.cany_log.specs.ReportItems.{journal_text}
use Rattle.cany_log.proofs.PageFacts.{HasPut}
use Rattle.cany_log.proofs.heading.put_journal.Given as goal

abbrev pub invariant-loop-line : goal.invariant-loop-line
invariant-loop-line l = record {
  put : HasPut (journal_text l.journal) (range_with_len 0 l.end) l.line l.initial.page l.page;
  short : length l.page + 73 * l.line ≤ length l.initial.page + 73 * l.end;
  order : l.first ≤ l.line;
  within : l.line ≤ l.end;
}

abbrev pub decreases-loop-line : goal.decreases-loop-line
decreases-loop-line l = l.line
