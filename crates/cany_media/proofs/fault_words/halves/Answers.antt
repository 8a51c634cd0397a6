use Rattle.cany_media.proofs.WordFacts.{not_two}
use Rattle.cany_media.proofs.fault_words.halves.Goals as goal

pub returns-in-Some-clause-none : goal.returns-in-Some-clause-none
returns-in-Some-clause-none c =
    not_two c.args.mark c.args.text.now c.in_ok-first.second.now c.in-Some.field-0.1.now c.in_ok-first.first.now c.in-Some.field-0.0.now
    c.in_ok-first.ensures.parts c.in-Some.ensures.parts
