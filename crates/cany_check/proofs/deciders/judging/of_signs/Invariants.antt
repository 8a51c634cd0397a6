use Rattle.std.proofs.Common.{◌≡◌, drop, map}
use Rattle.std.specs.List.{fold}
use Rattle.cany_check.specs.declared.deciders.findings.Told.{Told}
use Rattle.cany_check.specs.Deciding.Judged.{with_fate}
use Rattle.cany_check.specs.Deciding.Verdict.{of_fates}
use Rattle.cany_check.proofs.deciders.judging.of_signs.Given as goal

abbrev pub invariant-loop-sign : goal.invariant-loop-sign
invariant-loop-sign l =
    fold with_fate l.judged (map (λ (t : Told). t.fate) (drop l.sign-index l.told)) ≡ of_fates (map (λ (t : Told). t.fate) l.told)
