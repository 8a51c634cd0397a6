use Rattle.std.proofs.Common.{◌||◌, Bool, take}
use Rattle.cany_model.specs.Bus.Frames.{Identity}
use Rattle.cany_check.specs.Idle.Attempts.{AreZero, is_asked}
use Rattle.cany_check.proofs.unused_entries.attempts.enter_asks.Given as goal

abbrev pub invariant-loop-i : goal.invariant-loop-i
invariant-loop-i l =
    (named : Identity → Bool) → AreZero named l.fn.counts.entries → AreZero (λ x. named x || is_asked l.params l.class (take l.i l.asks) x) l.counts.entries
