use Rattle.std.proofs.Common.{arith}
use Rattle.cany_log.proofs.TextFacts.{length-payload_text, payload_text_done}
use Rattle.cany_log.proofs.text_before.payload_before.Goals as goal

pub returns-clause-start : goal.returns-clause-start
returns-clause-start c = omega (arith, c.word_before.ensures.start, c.loop-left.invariant.place, c.loop-left-test.false, length-payload_text c.args.payload.now)

pub returns-clause-text : goal.returns-clause-text
returns-clause-text c = payload_text_done c.args.payload.now _ _ _ _ c.loop-left.invariant.text (omega arith) c.word_before.ensures.text

pub returns-clause-short : goal.returns-clause-short
returns-clause-short c = omega (arith, length-payload_text c.args.payload.now, c.len-left.ensures.short, c.len-left.ensures.len)
