use Rattle.std.proofs.Common.{◌≡◌, drop, length}
use Rattle.cany_text.specs.JournalText.{steps_from}
use Rattle.cany_scenario.specs.Arrays.{after}
use Rattle.cany_scenario.proofs.journal.push_steps.Given as goal

-- the steps so far, and those of the bytes that are left
abbrev pub invariant-loop-byte : goal.invariant-loop-byte
invariant-loop-byte l =
    after l.initial.steps.items (steps_from l.format (length l.initial.steps.items) l.bytes)
    ≡ after l.steps.items (steps_from l.format (length l.steps.items) (drop l.byte-index l.bytes))
