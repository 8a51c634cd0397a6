use Rattle.std.proofs.Common.{◌≡◌, ◌+◌, ◌≤◌, ◌++◌, drop, length}
use Rattle.cany_log.proofs.text_before.word_before.Given as goal

abbrev pub invariant-loop-left : goal.invariant-loop-left
invariant-loop-left l = record {
  text : drop l.at l.row ≡ drop l.left l.word ++ drop l.end l.initial.row;
  place : l.at + length l.word ≡ l.end + l.left;
  within : l.left ≤ length l.word;
  len : length l.row ≡ length l.initial.row;
}

abbrev pub decreases-loop-left : goal.decreases-loop-left
decreases-loop-left l = l.left
