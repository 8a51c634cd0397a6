use Rattle.std.proofs.Common.{◌∙◌}
use Rattle.cany_media.proofs.WordFacts.{state_more, state_one, state_two}
use Rattle.cany_media.proofs.fault_words.state_in.Goals as goal

pub returns-in-None : goal.returns-in-None
returns-in-None c = c.down_in.ensures ∙ state_one c.args.text.now c.in-None.ensures.parts

pub returns-in-None-cut : goal.returns-in-None-cut
returns-in-None-cut c =
    c.split_in.ensures ∙ state_two c.args.text.now c.in-Some.word.now c.in-Some.nodes.now c.in-Some.ensures.parts c.in-None-cut.ensures.parts

pub returns-in-Some-cut : goal.returns-in-Some-cut
returns-in-Some-cut c =
    state_more c.args.text.now c.in-Some.word.now c.in-Some.nodes.now c.in-Some-cut.field-0.0.now c.in-Some-cut.field-0.1.now c.in-Some.ensures.parts c.in-Some-cut.ensures.parts
