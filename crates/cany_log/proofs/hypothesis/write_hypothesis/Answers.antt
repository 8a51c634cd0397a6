use Rattle.cany_text.specs.ReportLines.{hypothesis_line}
use Rattle.cany_log.proofs.hypothesis.write_hypothesis.Goals as goal

pub returns-in-None : goal.returns-in-None
unfolding hypothesis_line
returns-in-None g c = rw c.in-None.is c.write_line.ensures

pub returns-in-Some : goal.returns-in-Some
unfolding hypothesis_line
returns-in-Some g c = rw c.in-Some.is (rw c.break_name.ensures.name at c.write_line-in-Some.ensures)
