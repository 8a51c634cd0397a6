-- So many blank messages were pushed.
use Rattle.std.proofs.Common.{◌≡◌, replicate}
use Rattle.cany_totcan.specs.Backlog.{blank}
use Rattle.cany_totcan.proofs.backlog.Backlog.build.Given as goal

abbrev pub invariant-loop : goal.invariant-loop
invariant-loop l = (l.own.items ≡ replicate l.counter blank) × (l.own.room ≡ l.room)
