use Rattle.std.proofs.Common.{◌-◌, ◌≤◌, length, take, drop}
use Rattle.can_controller.specs.Waiting.{identity_number}
use Rattle.can_controller.proofs.AscendingFacts.{AllBelow, AllAbove}
use Rattle.can_controller.proofs.waiting.find.Given as goal

abbrev pub invariant-loop-low : goal.invariant-loop-low
invariant-loop-low l = record {
  ordered : l.low ≤ l.high;
  within : l.high ≤ length l.frames;
  below : AllBelow (identity_number l.format) l.number (take l.low l.frames);
  above : AllAbove (identity_number l.format) l.number (drop l.high l.frames);
}

abbrev pub decreases-loop-low : goal.decreases-loop-low
decreases-loop-low l = l.high - l.low
