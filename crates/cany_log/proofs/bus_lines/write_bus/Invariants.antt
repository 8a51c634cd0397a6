use Rattle.std.proofs.Common.{◌≡◌}
use Rattle.std.specs.List.{concat, flat_map}
use Rattle.std.specs.Slice.Iter.{chunks_rest, chunks_size}
use Rattle.cany_model.specs.Runs.Run.{run}
use Rattle.cany_text.specs.Report.{bus_lines}
use Rattle.cany_log.specs.ReportItems.{shown_line}
use Rattle.cany_log.proofs.UpToFacts.{IsPagedUpTo}
use Rattle.cany_log.proofs.bus_lines.write_bus.Given as goal

abbrev pub invariant-loop-notes : goal.invariant-loop-notes
invariant-loop-notes g l = record {
  lines : IsPagedUpTo (concat (bus_lines (run l.world.scenario l.world.journal))) (flat_map (shown_line (run l.world.scenario l.world.journal)) (chunks_rest l.notes-iterator))
      l.page (g.K.Sink.taken l.initial.sink) (g.K.Sink.taken l.sink) (g.K.Sink.faults l.initial.sink) (g.K.Sink.faults l.sink);
  size : chunks_size l.notes-iterator ≡ 16;
}
