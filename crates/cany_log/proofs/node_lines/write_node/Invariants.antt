use Rattle.std.proofs.Common.{◌≡◌, [], take, Ok, ◌+◌}
use Rattle.std.specs.List.{flat_map, range_with_len}
use Rattle.cany_log.proofs.ReportFacts.{incarnation_part}
use Rattle.cany_log.specs.Written.{IsWritten}
use Rattle.cany_log.proofs.node_lines.write_node.Given as goal

abbrev pub invariant-loop-inc : goal.invariant-loop-inc
invariant-loop-inc g l = record {
  written : IsWritten (flat_map (incarnation_part l.world.scenario l.world.journal l.node) (take l.inc (range_with_len 0 (l.inc-end + 1)))) (Ok tt)
      (g.K.Sink.taken l.initial.sink) (g.K.Sink.taken l.sink) (g.K.Sink.faults l.initial.sink) (g.K.Sink.faults l.sink);
  empty : l.page ≡ [];
}
