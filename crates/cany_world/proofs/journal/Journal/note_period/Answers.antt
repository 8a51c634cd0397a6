use Rattle.cany_world.proofs.journal.Journal.note_period.Goals as goal

pub invariant_of-self : goal.invariant_of-self
invariant_of-self c = rw (← c.self.view_is) at c.requires
