use Rattle.std.proofs.Common.{sym, ◌∙◌}
use Rattle.cany_command.proofs.NumberFacts.{no_number, number_parsed, number_short}
use Rattle.cany_command.proofs.numbers.number_in.Goals as goal

pub returns-then-is_numeral-clause-number : goal.returns-then-is_numeral-clause-number
returns-then-is_numeral-clause-number c =
    c.ok.ensures.value
    ∙ number_parsed c.args.most c.args.word.now c.parse.result c.requires (sym c.is_numeral.ensures ∙ c.if-is_numeral.true) c.parse.ensures.value.0

pub returns-then-is_numeral-clause-short : goal.returns-then-is_numeral-clause-short
returns-then-is_numeral-clause-short c = number_short c.args.most c.args.word.now c.ok.result (returns-then-is_numeral-clause-number c)

pub returns-else-is_numeral-clause-number : goal.returns-else-is_numeral-clause-number
returns-else-is_numeral-clause-number c = no_number c.args.most c.args.word.now (sym c.is_numeral.ensures ∙ c.if-is_numeral.false)
