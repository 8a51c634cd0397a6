use Rattle.std.proofs.Common.{◌∙◌, arith}
use Rattle.cany_check.specs.Accounts.AccountFields.{log_parts}
use Rattle.cany_check.proofs.Deciding.AccuracyFacts.{accused_by}
use Rattle.cany_check.proofs.deciders.accuracy.accusation_of.Goals as goal

pub returns-in-None : goal.returns-in-None
returns-in-None c a are =
    accused_by a (log_parts c.args.log.now) c.args.accusers.now c.from.result c.index-accusers-from.result _ are (c.from.ensures ∙ c.get.ensures.value)
    (omega (arith, c.get.ensures.in_range, c.get.ensures.value)) c.index-accusers-from.is c.in-None.is

pub returns-in-Some : goal.returns-in-Some
returns-in-Some c a are =
    accused_by a (log_parts c.args.log.now) c.args.accusers.now c.from.result c.index-accusers-from.result _ are (c.from.ensures ∙ c.get.ensures.value)
    (omega (arith, c.get.ensures.in_range, c.get.ensures.value)) c.index-accusers-from.is c.in-Some.is
