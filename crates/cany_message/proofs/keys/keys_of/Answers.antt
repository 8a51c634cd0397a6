use Rattle.std.proofs.Common.{◌+◌, subst, sym, refl, arith}
use Rattle.cany_message.proofs.KeyFacts.{AreFirstKeys, keys_next, keys_all}
use Rattle.cany_message.proofs.SequenceFacts.{before, counted_few, counted_next}
use Rattle.cany_message.proofs.keys.keys_of.Goals as goal

pub next-seq-requires : goal.next-seq-requires
next-seq-requires c = λ node small.
    omega (arith, c.requires, c.loop-send-test.true, counted_few c.args.sends.now c.loop-send.send-index c.loop-send.numbers node c.loop-send.invariant.counts small (omega (arith, c.loop-send-test.true)))

pub loop-send-preserved : goal.loop-send-preserved
loop-send-preserved c =
    let earlier = before c.args.sends.now c.loop-send.send-index in
    record {
      keys = subst (AreFirstKeys c.args.sends.now (c.loop-send.send-index + 1)) (sym c.in_ok-push.ensures.items)
          (keys_next c.args.sends.now c.loop-send.send-index c.send-item.result c.loop-send.keys.items c.next-seq.result c.loop-send.invariant.keys c.loop-send-test.true c.send-item.is
          (c.next-seq.ensures.message earlier c.send-item.result c.loop-send.invariant.counts refl));
      counts = counted_next c.args.sends.now c.loop-send.send-index c.send-item.result c.loop-send-test.true c.send-item.is c.next-seq.new.self
          (c.next-seq.ensures.counts earlier c.send-item.result c.loop-send.invariant.counts refl);
    }

pub returns : goal.returns
returns c = keys_all c.args.sends.now c.loop-send.send-index c.loop-send.keys.items c.loop-send.invariant.keys (omega (arith, c.loop-send-test.false))
