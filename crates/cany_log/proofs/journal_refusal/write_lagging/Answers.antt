use Rattle.cany_log.proofs.journal_refusal.write_lagging.Goals as goal

pub returns : goal.returns
returns g c = rw (c.from.ensures, c.get.ensures.value, c.from-2.ensures) at c.write_line.ensures
