use Rattle.cany_life.proofs.IdleFacts.{failed_more}
use Rattle.cany_life.proofs.life.Life.mark.Goals as goal

pub invariant_of-self : goal.invariant_of-self
invariant_of-self c = λ r near watched.
    c.self.invariant r near
    (failed_more c.sign.inside.node c.self.inside.failed c.insert-2.new.self c.self.inside.watched c.self.inside.node r near c.insert-2.ensures.set watched)
