use Rattle.cany_log.proofs.FieldFacts.{HasFields}
use Rattle.cany_log.proofs.line.write_row.Given as goal

abbrev pub invariant-loop-left : goal.invariant-loop-left
invariant-loop-left g l = HasFields l.fields l.left l.line_buffer

abbrev pub decreases-loop-left : goal.decreases-loop-left
decreases-loop-left g l = l.left
