use Rattle.cany_world.proofs.journal.Journal.period.Goals as goal

pub returns : goal.returns
returns c = rw c.self.view_is at c.self.invariant
