use Rattle.std.proofs.Common.{◌≡◌, ◌-◌, ◌++◌}
use Rattle.cany_world.specs.Resting.{rounds_of}
use Rattle.cany_world.proofs.Idle.JournalRounds.{IsInSteps}
use Rattle.cany_world.proofs.journal.push_rounds.Given as goal

abbrev pub invariant-loop-slot : goal.invariant-loop-slot
invariant-loop-slot l =
    IsInSteps (l.fn.journal.items ++ rounds_of l.slots l.controllers) l.journal.items (rounds_of (l.slots - l._slot) l.controllers)
    × (l.journal.room ≡ l.fn.journal.room)
