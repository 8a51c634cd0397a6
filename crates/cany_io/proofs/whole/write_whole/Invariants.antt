use Rattle.std.proofs.Common.{◌≡◌, length, take, ◌-◌, ◌≤◌}
use Rattle.cany_io.specs.Sink.{Takes}
use Rattle.cany_io.proofs.whole.write_whole.Given as goal

-- so many bytes were taken, the count of faults did not fall, and the sink is untouched at the
-- start
abbrev pub invariant-pieces : goal.invariant-pieces
invariant-pieces g l = record {
  within : l.written ≤ length l.bytes;
  taken : Takes (g.K.Sink.taken l.initial.sink) (take l.written l.bytes) (g.K.Sink.taken l.sink);
  count : g.K.Sink.faults l.initial.sink ≤ g.K.Sink.faults l.sink;
  untouched : l.written ≡ 0 → l.sink ≡ l.initial.sink;
}

abbrev pub decreases-pieces : goal.decreases-pieces
decreases-pieces g l = length l.bytes - l.written
