use Rattle.cany_check.proofs.text.head.write_fates.Goals as goal

pub returns : goal.returns
returns g c = rw (← c.service_if_any.ensures.texts, ← c.judgement_name.ensures.name) c.write_short_line.ensures
