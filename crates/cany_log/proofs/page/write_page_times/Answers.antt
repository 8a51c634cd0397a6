use Rattle.cany_log.proofs.page.write_page_times.Goals as goal

pub returns : goal.returns
returns g c = record { written = rw c.as_slice.ensures at c.write_times-written.ensures; empty = c.clear.ensures }
