use Rattle.std.proofs.Common.{take, Ok}
use Rattle.std.specs.List.{flat_map}
use Rattle.cany_check.specs.Texts.HeadParts.{part_line}
use Rattle.cany_log.specs.Written.{IsWritten}
use Rattle.cany_check.proofs.text.head.write_parts.Given as goal

abbrev pub invariant-loop-part : goal.invariant-loop-part
invariant-loop-part g l =
    IsWritten (flat_map (part_line l.account) (take l.part-index l.parts)) (Ok tt)
    (g.K.Sink.taken l.initial.sink) (g.K.Sink.taken l.sink) (g.K.Sink.faults l.initial.sink) (g.K.Sink.faults l.sink)
