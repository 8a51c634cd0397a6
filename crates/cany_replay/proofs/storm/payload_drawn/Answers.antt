use Rattle.std.proofs.Common.{arith}
use Rattle.cany_replay.specs.Storm.{below}
use Rattle.cany_replay.proofs.DrawFacts.{drawn-none, drawn-next}
use Rattle.cany_replay.proofs.storm.payload_drawn.Goals as goal

pub loop-init : goal.loop-init
loop-init c = record { drawn = drawn-none (λ _. below 256) _ _ (cc); count = cc }

pub push-requires : goal.push-requires
push-requires c = (omega arith, omega (arith, c.loop.invariant.count, c.loop-test.true, c.below-count.ensures.small))

pub loop-preserved : goal.loop-preserved
loop-preserved c = record {
  drawn = drawn-next (λ _. below 256) c.loop.counter _ _ _ c.loop.bytes.items c.push.new.self.items c.below.result c.loop.invariant.drawn c.below.ensures.drawn (cc);
  count = omega (arith, c.push.ensures.len, c.loop.invariant.count);
}
