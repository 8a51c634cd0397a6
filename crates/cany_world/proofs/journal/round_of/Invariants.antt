use Rattle.std.proofs.Common.{◌≡◌, ◌+◌, ◌-◌, ◌≤◌, length, take}
use Rattle.cany_world.specs.Resting.{round_of}
use Rattle.cany_world.proofs.Idle.JournalRounds.{IsInSteps, turns_from}
use Rattle.cany_world.proofs.journal.round_of.Given as goal

abbrev pub invariant-loop-i : goal.invariant-loop-i
invariant-loop-i l = record {
  steps : IsInSteps (round_of l.controllers) (take l.count l.steps) (turns_from l.controllers l.i (length l.controllers - l.i));
  few : l.count ≤ l.i + 1;
  len : length l.steps ≡ 65;
}
