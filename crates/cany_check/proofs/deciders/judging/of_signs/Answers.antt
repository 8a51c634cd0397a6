use Rattle.std.proofs.Common.{map}
use Rattle.cany_check.specs.declared.deciders.findings.Told.{Told}
use Rattle.cany_check.proofs.Deciding.JudgedFacts.{judged_of_all}
use Rattle.cany_check.proofs.deciders.judging.of_signs.Goals as goal

pub loop-sign-init : goal.loop-sign-init
loop-sign-init c = judged_of_all (map (λ (t : Told). t.fate) c.args.told.now)
