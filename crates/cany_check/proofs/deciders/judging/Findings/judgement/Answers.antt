use Rattle.std.proofs.Common.{◌∙◌}
use Rattle.cany_check.proofs.Deciding.JudgedFacts.{judged_is}
use Rattle.cany_check.proofs.deciders.judging.Findings.judgement.Goals as goal

pub returns : goal.returns
returns c a are = c.judged.ensures ∙ judged_is a c.args.self.now are c.args.part
