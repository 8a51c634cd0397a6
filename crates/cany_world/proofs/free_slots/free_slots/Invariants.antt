use Rattle.std.proofs.Common.{◌≤◌, ◌-◌}
use Rattle.cany_world.proofs.Idle.FreeFacts.{AreFree}
use Rattle.cany_world.proofs.free_slots.free_slots.Given as goal

abbrev pub invariant-loop-slots : goal.invariant-loop-slots
invariant-loop-slots l = (l.slots ≤ l.most) × AreFree l.script l.restarts l.next l.slots

abbrev pub decreases-loop-slots : goal.decreases-loop-slots
decreases-loop-slots l = l.most - l.slots
