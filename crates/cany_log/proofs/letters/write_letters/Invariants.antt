use Rattle.std.proofs.Common.{◌≡◌, length, map, take}
use Rattle.cany_text.specs.ReportLines.{step_letter}
use Rattle.cany_log.proofs.letters.write_letters.Given as goal

abbrev pub invariant-loop-i : goal.invariant-loop-i
invariant-loop-i l = record {
  text : take l.i l.letters ≡ map step_letter (take l.i l.steps);
  len : length l.letters ≡ length l.steps;
}
