use Rattle.std.proofs.Common.{take, Ok}
use Rattle.std.specs.List.{flat_map}
use Rattle.cany_log.specs.Written.{IsWritten}
use Rattle.cany_check.proofs.text.lines.write_lines.Given as goal

abbrev pub invariant-loop-item : goal.invariant-loop-item
invariant-loop-item g l =
    IsWritten (flat_map g.L.Line.line (take l.item-index l.items)) (Ok tt)
    (g.K.Sink.taken l.initial.sink) (g.K.Sink.taken l.sink) (g.K.Sink.faults l.initial.sink) (g.K.Sink.faults l.sink)
