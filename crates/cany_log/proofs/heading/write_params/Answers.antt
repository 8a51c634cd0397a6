use Rattle.cany_text.specs.ReportLines.{params_line}
use Rattle.cany_log.proofs.heading.write_params.Goals as goal

pub returns : goal.returns
unfolding params_line
returns g c =
    rw (← c.params.view_is) (rw (c.from.ensures, c.from-2.ensures, c.from-3.ensures, c.from-4.ensures) at c.write_line.ensures)
