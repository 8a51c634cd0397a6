use Rattle.std.proofs.Common.{take, Ok}
use Rattle.std.specs.List.{flat_map}
use Rattle.cany_log.specs.Written.{IsWritten}
use Rattle.cany_watch.specs.WatchText.{read_text}
use Rattle.cany_watch.proofs.text.write_all_read.Given as goal

abbrev pub invariant-loop-read : goal.invariant-loop-read
invariant-loop-read g l =
    IsWritten (flat_map read_text (take l.read-index l.reads)) (Ok tt)
    (g.K.Sink.taken l.initial.sink) (g.K.Sink.taken l.sink) (g.K.Sink.faults l.initial.sink) (g.K.Sink.faults l.sink)
