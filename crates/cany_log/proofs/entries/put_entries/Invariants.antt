use Rattle.std.proofs.Common.{◌+◌, ◌*◌, ◌≤◌, length}
use Rattle.cany_text.specs.ReportLines.{entry_line}
use Rattle.cany_log.proofs.PageFacts.{HasPut}
use Rattle.cany_log.proofs.entries.put_entries.Given as goal

abbrev pub invariant-loop-left : goal.invariant-loop-left
invariant-loop-left l = record {
  put : HasPut entry_line l.entries l.left l.initial.page l.page;
  short : length l.page + 256 * l.left ≤ length l.initial.page + 256 * length l.entries;
}

abbrev pub decreases-loop-left : goal.decreases-loop-left
decreases-loop-left l = l.left
