-- Before the slot that is answered silence finds nobody, and no life sign is due.
use Rattle.std.proofs.Common.{length, arith}
use Rattle.cany_life.proofs.RestFacts.{rests}
use Rattle.cany_life.proofs.life.Life.wake.Goals as goal

pub returns : goal.returns
returns c = record {
  rests = λ scenario past knowledge h after before within.
      rests scenario c.args.self.now.node past knowledge c.args.members c.args.self.now h within
      (c.next_silent-silent.ensures (length past) after (omega (arith, before, c.min.ensures)))
      (c.next_due-due.ensures (length past) after (omega (arith, before, c.min.ensures)));
}
