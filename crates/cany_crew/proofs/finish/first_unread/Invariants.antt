use Rattle.std.proofs.Common.{◌≡◌, ℕ, ◌<◌, false}
use Rattle.cany_model.specs.Runs.RoundRobin.{is_to_read}
use Rattle.cany_model.specs.Bus.State.{node_at}
use Rattle.cany_world.specs.World.{state_of}
use Rattle.cany_crew.proofs.finish.first_unread.Given as goal

abbrev pub invariant-loop-i : goal.invariant-loop-i
invariant-loop-i l = (node : ℕ) → node < l.i → is_to_read (node_at (state_of l.world).nodes node) ≡ false
