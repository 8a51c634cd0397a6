use Rattle.cany_check.specs.Texts.CheckLines.{unused_line}
use Rattle.cany_check.proofs.text.unused_lines.UnusedLine.write.Goals as goal

pub returns-in-Join : goal.returns-in-Join
unfolding unused_line
returns-in-Join g c = rw c.in-Join.is c.write_ask-in-Join.ensures

pub returns-in-Leave : goal.returns-in-Leave
unfolding unused_line
returns-in-Leave g c = rw c.in-Leave.is c.write_ask-in-Leave.ensures
