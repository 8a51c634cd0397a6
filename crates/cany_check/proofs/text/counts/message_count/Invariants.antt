use Rattle.std.proofs.Common.{◌≡◌, ◌≤◌, take}
use Rattle.std.specs.Prelude.{count_by}
use Rattle.cany_check.proofs.Texts.CountFacts.{is_counted}
use Rattle.cany_check.proofs.text.counts.message_count.Given as goal

abbrev pub invariant-loop-i : goal.invariant-loop-i
invariant-loop-i l = record {
  counted : l.count ≡ count_by (is_counted l.account l.by l.fate) (take l.i l.account.messages);
  few : l.count ≤ l.i;
}
