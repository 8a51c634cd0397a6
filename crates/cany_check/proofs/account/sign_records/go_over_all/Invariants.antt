use Rattle.std.proofs.Common.{◌≡◌, List, [], map, reverse, take}
use Rattle.cany_model.specs.Bus.State.{RunState}
use Rattle.cany_model.specs.Rules.Knowledge.{FailureSign}
use Rattle.cany_check.specs.Accounts.Records.{sign_entry}
use Rattle.cany_check.proofs.account.sign_records.go_over_all.Given as goal

abbrev pub invariant-loop-i : goal.invariant-loop-i
invariant-loop-i l =
    (s : RunState) (told : List FailureSign) → l.fn.table.entries ≡ map (sign_entry s []) told
    → l.table.entries ≡ map (sign_entry s (reverse (take l.i l.trace))) told
