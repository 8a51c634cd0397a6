use Rattle.std.proofs.Common.{ap, length, arith}
use Rattle.cany_check.proofs.Texts.CountFacts.{messages_counted}
use Rattle.cany_check.proofs.text.counts.message_count.Goals as goal

pub returns : goal.returns
returns c =
    messages_counted c.args.account.now c.args.by c.args.fate c.loop-i.i c.loop-i.count (omega (arith, c.loop-i-test.false, ap length c.messages-messages.ensures.messages))
    c.loop-i.invariant.counted
