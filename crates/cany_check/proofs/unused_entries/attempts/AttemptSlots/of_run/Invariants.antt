use Rattle.std.proofs.Common.{reverse, take}
use Rattle.cany_check.specs.Idle.Attempts.{AreAttempts, is_named}
use Rattle.cany_check.proofs.unused_entries.attempts.AttemptSlots.of_run.Given as goal

-- the attempts are those of the slots so far
abbrev pub invariant-loop-i : goal.invariant-loop-i
invariant-loop-i l = AreAttempts (is_named l.world.scenario) (reverse (take l.i l.trace)) l.attempts
