use Rattle.std.proofs.Common.{◌≡◌, ◌≤◌, drop, false, length}
use Rattle.std.specs.List.{list_any}
use Rattle.cany_totcan.specs.Acceptances.{placed_of}
use Rattle.cany_totcan.specs.Queue.{is_at}
use Rattle.cany_totcan.proofs.queue.index_of.Given as goal

abbrev pub invariant-loop-left : goal.invariant-loop-left
invariant-loop-left l = record {
  within : l.left ≤ length l.entries.items;
  none : list_any (is_at l.msg) (drop l.left (placed_of l.entries.items)) ≡ false;
}

abbrev pub decreases-loop-left : goal.decreases-loop-left
decreases-loop-left l = l.left
