use Rattle.std.proofs.Common.{◌≡◌, ◌++◌, take}
use Rattle.cany_world.specs.World.{state_of}
use Rattle.cany_check.specs.declared.unused_entries.unused_entry.UnusedEntry.TheVariants as entry
use Rattle.cany_check.specs.Idle.Unused.{unused_rule, with_places}
use Rattle.cany_check.proofs.unused_entries.unused_faults.push_rules.Given as goal

abbrev pub invariant-loop-place : goal.invariant-loop-place
invariant-loop-place l =
    l.found.items ≡ l.fn.found.items ++ with_places (unused_rule l.world.scenario (state_of l.world)) (λ why. entry.Fault why) 0 (take l.place l.rules)
