use Rattle.std.proofs.Common.{◌≡◌, ◌+◌, ◌*◌, ◌≤◌, ◌++◌, drop, length}
use Rattle.std.specs.List.{flat_map}
use Rattle.cany_text.specs.ReportLines.{byte_text}
use Rattle.cany_log.proofs.text_before.payload_before.Given as goal

abbrev pub invariant-loop-left : goal.invariant-loop-left
invariant-loop-left l = record {
  text : drop l.at l.row ≡ flat_map byte_text (drop l.left l.payload) ++ drop l.end l.initial.row;
  place : l.at + 2 * length l.payload ≡ l.end + 2 * l.left;
  within : l.left ≤ length l.payload;
  len : length l.row ≡ length l.initial.row;
}

abbrev pub decreases-loop-left : goal.decreases-loop-left
decreases-loop-left l = l.left
