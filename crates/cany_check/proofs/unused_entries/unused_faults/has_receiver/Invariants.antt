use Rattle.std.proofs.Common.{◌≡◌, ◌<◌, ◌&&◌, ℕ, false}
use Rattle.cany_base.specs.Nodes.{has}
use Rattle.cany_world.specs.World.{state_of}
use Rattle.cany_check.specs.Idle.Unused.{is_receiver}
use Rattle.cany_check.proofs.unused_entries.unused_faults.has_receiver.Given as goal

abbrev pub invariant-loop-i : goal.invariant-loop-i
invariant-loop-i l = (k : ℕ) → k < l.i → (has l.nodes k && is_receiver (state_of l.world) l.note k) ≡ false
