use Rattle.std.proofs.Common.{◌≡◌, ◌≤◌, take}
use Rattle.std.specs.Prelude.{count_by}
use Rattle.cany_check.specs.Texts.Counts.{is_fate}
use Rattle.cany_check.proofs.text.counts.told_count.Given as goal

abbrev pub invariant-loop-i : goal.invariant-loop-i
invariant-loop-i l = record {
  counted : l.count ≡ count_by (λ t. is_fate l.fate t.fate) (take l.i l.told);
  few : l.count ≤ l.i;
}
