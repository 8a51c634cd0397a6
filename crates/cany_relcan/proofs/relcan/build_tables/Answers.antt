use Rattle.cany_relcan.proofs.relcan.build_tables.Goals as goal

pub returns-clause-copies : goal.returns-clause-copies
returns-clause-copies c = c.in_ok-copies.ensures

pub returns-clause-confirms : goal.returns-clause-confirms
returns-clause-confirms c = c.in_ok-confirms.ensures
