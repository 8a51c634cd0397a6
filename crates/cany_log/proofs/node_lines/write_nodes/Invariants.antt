use Rattle.std.proofs.Common.{◌≡◌, [], take, Ok}
use Rattle.std.specs.List.{flat_map, range_with_len}
use Rattle.cany_log.proofs.ReportFacts.{node_part}
use Rattle.cany_log.specs.Written.{IsWritten}
use Rattle.cany_log.proofs.node_lines.write_nodes.Given as goal

abbrev pub invariant-loop-number : goal.invariant-loop-number
invariant-loop-number g l = record {
  written : IsWritten (flat_map (node_part l.world.scenario l.world.journal) (take l.number (range_with_len 0 l.number-end))) (Ok tt)
      (g.K.Sink.taken l.initial.sink) (g.K.Sink.taken l.sink) (g.K.Sink.faults l.initial.sink) (g.K.Sink.faults l.sink);
  empty : l.page ≡ [];
}
