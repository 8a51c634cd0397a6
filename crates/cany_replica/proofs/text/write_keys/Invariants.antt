use Rattle.std.proofs.Common.{take, Ok}
use Rattle.std.specs.List.{flat_map, range_with_len}
use Rattle.cany_log.specs.Written.{IsWritten}
use Rattle.cany_replica.proofs.TextFacts.{key_part}
use Rattle.cany_replica.proofs.text.write_keys.Given as goal

abbrev pub invariant-loop-key : goal.invariant-loop-key
invariant-loop-key g l =
    IsWritten (flat_map (key_part l.table) (take l.key (range_with_len 0 256))) (Ok tt)
    (g.K.Sink.taken l.initial.sink) (g.K.Sink.taken l.sink) (g.K.Sink.faults l.initial.sink) (g.K.Sink.faults l.sink)
