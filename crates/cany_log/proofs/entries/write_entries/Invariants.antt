use Rattle.std.proofs.Common.{◌≡◌}
use Rattle.std.specs.List.{flat_map}
use Rattle.std.specs.Slice.Iter.{chunks_rest, chunks_size}
use Rattle.cany_text.specs.ReportLines.{entry_line}
use Rattle.cany_log.proofs.UpToFacts.{IsPagedUpTo}
use Rattle.cany_log.proofs.entries.write_entries.Given as goal

abbrev pub invariant-loop-entries : goal.invariant-loop-entries
invariant-loop-entries g l = record {
  lines : IsPagedUpTo (flat_map entry_line l.log) (flat_map entry_line (chunks_rest l.entries-iterator)) l.page
      (g.K.Sink.taken l.initial.sink) (g.K.Sink.taken l.sink) (g.K.Sink.faults l.initial.sink) (g.K.Sink.faults l.sink);
  size : chunks_size l.entries-iterator ≡ 64;
}
