use Rattle.std.proofs.Common.{◌≡◌, ◌-◌, ◌<◌, ◌≤◌, true}
use Rattle.cany_base.specs.Nodes.{has}
use Rattle.cany_log.proofs.SetTextFacts.{HasListed}
use Rattle.cany_log.proofs.line_buffer.LineBuffer.put_numbers.Given as goal

abbrev pub invariant-loop-end : goal.invariant-loop-end
invariant-loop-end g l = record {
  listed : HasListed l.set l.end l.initial.self l.self;
  few : l.end ≤ 64;
  last : 0 < l.end → has l.set (l.end - 1) ≡ true;
}

abbrev pub decreases-loop-end : goal.decreases-loop-end
decreases-loop-end g l = l.end
