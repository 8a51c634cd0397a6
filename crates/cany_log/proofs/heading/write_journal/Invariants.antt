use Rattle.std.proofs.Common.{◌-◌, ◌≤◌, drop}
use Rattle.std.specs.List.{concat, flat_map, range_with_len}
use Rattle.cany_text.specs.ReportLines.{journal_lines}
use Rattle.cany_log.specs.ReportItems.{journal_text}
use Rattle.cany_log.proofs.UpToFacts.{IsPagedUpTo}
use Rattle.cany_log.proofs.heading.write_journal.Given as goal

abbrev pub invariant-loop-first : goal.invariant-loop-first
invariant-loop-first g l = record {
  lines : IsPagedUpTo (concat (journal_lines l.journal)) (flat_map (journal_text l.journal) (drop l.first (range_with_len 0 l.lines)))
      l.page (g.K.Sink.taken l.fn.sink) (g.K.Sink.taken l.sink) (g.K.Sink.faults l.fn.sink) (g.K.Sink.faults l.sink);
  within : l.first ≤ l.lines;
}

abbrev pub decreases-loop-first : goal.decreases-loop-first
decreases-loop-first g l = l.lines - l.first
