use Rattle.std.proofs.Common.{◌+◌, ◌-◌, ◌≤◌, vec_len}
use Rattle.cany_io.specs.Source.{Gives}
use Rattle.cany_io.proofs.whole.read_all.Given as goal

-- the bytes so far were given, no more than the limit, and the count of faults did not fall
abbrev pub invariant-turns : goal.invariant-turns
invariant-turns g l = record {
  within : vec_len l.bytes ≤ l.limit;
  given : Gives (g.S.Source.left l.initial.source) l.bytes.items (g.S.Source.left l.source);
  count : g.S.Source.faults l.initial.source ≤ g.S.Source.faults l.source;
}

abbrev pub decreases-turns : goal.decreases-turns
decreases-turns g l = l.limit + 1 - vec_len l.bytes
