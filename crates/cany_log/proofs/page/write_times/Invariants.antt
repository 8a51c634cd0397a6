use Rattle.std.proofs.Common.{◌-◌}
use Rattle.std.specs.Prelude.{replicate}
use Rattle.std.specs.List.{concat}
use Rattle.cany_log.proofs.UpToFacts.{IsWrittenUpTo}
use Rattle.cany_log.proofs.page.write_times.Given as goal

abbrev pub invariant-loop-time : goal.invariant-loop-time
invariant-loop-time g l =
    IsWrittenUpTo (concat (replicate l.times l.bytes)) (concat (replicate (l.times - l._time) l.bytes))
    (g.K.Sink.taken l.initial.sink) (g.K.Sink.taken l.sink) (g.K.Sink.faults l.initial.sink) (g.K.Sink.faults l.sink)
