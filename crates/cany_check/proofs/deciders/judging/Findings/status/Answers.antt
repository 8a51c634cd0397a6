use Rattle.std.proofs.Common.{◌∙◌, sym}
use Rattle.cany_check.proofs.Deciding.JudgedFacts.{nine, nought, ten}
use Rattle.cany_check.proofs.deciders.judging.Findings.status.Goals as goal

pub returns-then-is_any : goal.returns-then-is_any
returns-then-is_any c a are = sym (nine a c.args.self.now are (sym c.is_any.ensures ∙ c.if-is_any.true))

pub returns-then-is_any-2 : goal.returns-then-is_any-2
returns-then-is_any-2 c a are = sym (ten a c.args.self.now are (sym c.is_any.ensures ∙ c.if-is_any.false) (sym c.is_any-else-is_any.ensures ∙ c.if-is_any-2.true))

pub returns-else-is_any-2 : goal.returns-else-is_any-2
returns-else-is_any-2 c a are = sym (nought a c.args.self.now are (sym c.is_any.ensures ∙ c.if-is_any.false) (sym c.is_any-else-is_any.ensures ∙ c.if-is_any-2.false))
