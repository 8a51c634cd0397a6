use Rattle.std.proofs.Common.{take}
use Rattle.can_fault.specs.Attempts.{HasIdentities}
use Rattle.can_fault.proofs.attempts.Attempts.build.Given as goal

-- the counts have the frames that the rules so far name
abbrev pub invariant-loop-rule : goal.invariant-loop-rule
invariant-loop-rule l = HasIdentities (take l.rule-index l.rule-items) l.counts.entries
