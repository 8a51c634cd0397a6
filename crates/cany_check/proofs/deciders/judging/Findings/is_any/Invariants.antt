use Rattle.std.proofs.Common.{◌≡◌, drop}
use Rattle.std.specs.List.{list_any}
use Rattle.cany_check.specs.Deciding.Judged.{is_judgement, judged}
use Rattle.cany_check.proofs.deciders.judging.Findings.is_any.Given as goal

abbrev pub invariant-loop-part : goal.invariant-loop-part
invariant-loop-part l =
    list_any (λ part. is_judgement l.wanted (judged l.self part)) (drop l.part-index l.parts) ≡ list_any (λ part. is_judgement l.wanted (judged l.self part)) l.parts
