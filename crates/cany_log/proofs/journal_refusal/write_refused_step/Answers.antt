use Rattle.cany_text.specs.RefusalLines.{journal_refusal_line}
use Rattle.cany_log.proofs.journal_refusal.write_refused_step.Goals as goal

pub returns-in-Done : goal.returns-in-Done
unfolding journal_refusal_line
returns-in-Done g c = rw c.in-Done.is c.write_line.ensures

pub returns-in-Lagging : goal.returns-in-Lagging
unfolding journal_refusal_line
returns-in-Lagging g c = rw c.in-Lagging.is c.write_lagging.ensures

pub returns-in-Over : goal.returns-in-Over
unfolding journal_refusal_line
returns-in-Over g c = rw c.in-Over.is c.write_cause.ensures

pub returns-in-NothingYet : goal.returns-in-NothingYet
unfolding journal_refusal_line
returns-in-NothingYet g c = rw c.in-NothingYet.is c.write_cause-in-NothingYet.ensures

pub returns-in-Stopped : goal.returns-in-Stopped
unfolding journal_refusal_line
returns-in-Stopped g c = rw c.in-Stopped.is c.write_cause-in-Stopped.ensures

pub returns-in-NoNode : goal.returns-in-NoNode
unfolding journal_refusal_line
returns-in-NoNode g c =
    rw c.in-NoNode.is (rw (c.from.ensures, c.get.ensures.value) at c.write_cause-in-NoNode.ensures)
