use Rattle.std.proofs.Common.{◌≡◌, ◌+◌, ◌≤◌, length}
use Rattle.cany_totcan.specs.TotcanSteps.{HaveGone, due}
use Rattle.cany_totcan.proofs.totcan.Totcan.deliver_done.Given as goal

abbrev pub invariant-loop-frame : goal.invariant-loop-frame
invariant-loop-frame l = record {
  gone : HaveGone l.slot l.initial.self l.self l.initial.out.items l.out.items;
  few : length l.out.items + length (due l.self) ≤ length l.initial.out.items + length (due l.initial.self);
  room : l.out.room ≡ l.initial.out.room;
}

abbrev pub decreases-loop-frame : goal.decreases-loop-frame
decreases-loop-frame l = length (due l.self)
