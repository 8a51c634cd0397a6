use Rattle.cany_log.proofs.scenario_refusal.write_of_key.Goals as goal

pub returns : goal.returns
returns g c = rw (c.key_name.ensures.name, c.table_name.ensures.name) at c.write_line.ensures
