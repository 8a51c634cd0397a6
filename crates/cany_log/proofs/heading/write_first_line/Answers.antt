use Rattle.std.proofs.Common.{sym}
use Rattle.cany_text.specs.ReportLines.{first_line}
use Rattle.cany_log.proofs.heading.write_first_line.Goals as goal

pub returns : goal.returns
unfolding first_line
returns g c = rw (sym c.number.ensures, sym c.from.ensures) c.write_line.ensures
