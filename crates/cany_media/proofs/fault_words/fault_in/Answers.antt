use Rattle.std.proofs.Common.{sym, ◌∙◌}
use Rattle.cany_media.proofs.WordFacts.{fault_one, fault_three, fault_two}
use Rattle.cany_media.proofs.fault_words.fault_in.Goals as goal

pub returns-in_err-line : goal.returns-in_err-line
returns-in_err-line c = c.from_residual.ensures ∙ fault_one c.args.word.now c.in_err-line.ensures.parts

pub returns-in_err-span : goal.returns-in_err-span
returns-in_err-span c =
    c.from_residual-in_err-span.ensures ∙ fault_two c.args.word.now c.in_ok-line.line.now c.in_ok-line.rest.now c.in_ok-line.ensures.parts c.in_err-span.ensures.parts

pub returns : goal.returns
returns c =
    c.fault_from.ensures
    ∙ rw (c.line_in.ensures.line, c.span_in.ensures.span, c.state_in.ensures)
    (sym (fault_three c.args.word.now c.in_ok-line.line.now c.in_ok-line.rest.now c.in_ok-span.span.now c.in_ok-span.state.now c.in_ok-line.ensures.parts c.in_ok-span.ensures.parts))
