use Rattle.std.proofs.Common.{◌∙◌}
use Rattle.cany_media.proofs.WordFacts.{span_none, span_two}
use Rattle.cany_media.proofs.fault_words.span_in.Goals as goal

pub returns-in-Some-clause-span : goal.returns-in-Some-clause-span
returns-in-Some-clause-span c =
    c.span_between.ensures.span
    ∙ rw (c.number_in.ensures.number, c.number_in-in-Some.ensures.number) (span_two c.args.text.now c.in-Some.from.now c.in-Some.to.now c.in-Some.ensures.some)

pub returns-in-None-clause-span : goal.returns-in-None-clause-span
returns-in-None-clause-span c = span_none c.args.text.now c.in-None.ensures.none
