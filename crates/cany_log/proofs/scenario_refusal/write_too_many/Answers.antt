use Rattle.cany_log.proofs.scenario_refusal.write_too_many.Goals as goal

pub returns : goal.returns
returns g c = rw c.table_name.ensures.name at c.write_line.ensures
