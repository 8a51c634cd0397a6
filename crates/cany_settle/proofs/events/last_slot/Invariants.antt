use Rattle.std.proofs.Common.{◌≡◌, drop}
use Rattle.cany_settle.specs.LastEvent.{greater, is_event, last_slot}
use Rattle.cany_settle.proofs.events.last_slot.Given as goal

-- the last so far and the last of what is left make the last of all
abbrev pub invariant-loop-i : goal.invariant-loop-i
invariant-loop-i l = greater l.last (last_slot is_event (drop l.i l.trace)) ≡ last_slot is_event l.trace
