use Rattle.std.proofs.Common.{◌≡◌, ◌++◌, take}
use Rattle.cany_world.specs.World.{state_of}
use Rattle.cany_check.specs.declared.unused_entries.unused_entry.UnusedEntry.TheVariants as entry
use Rattle.cany_check.specs.Idle.Unused.{as_list, unused_send, with_places}
use Rattle.cany_check.proofs.unused_entries.unused_sends.push_sends.Given as goal

abbrev pub invariant-loop-place : goal.invariant-loop-place
invariant-loop-place l =
    l.found.items ≡ l.fn.found.items ++ with_places (λ send. as_list (unused_send (state_of l.world) send)) (λ why. entry.Send why) 0 (take l.place l.sends)
