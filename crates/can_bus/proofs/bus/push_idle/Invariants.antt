use Rattle.std.proofs.Common.{◌≡◌, reverse}
use Rattle.can_bus.specs.Rest.{idle_trace}
use Rattle.can_bus.proofs.bus.push_idle.Given as goal

abbrev pub invariant-loop-slot : goal.invariant-loop-slot
invariant-loop-slot l = record {
  notes : reverse l.trace.items ≡ idle_trace l._slot (reverse l.initial.trace.items);
  room : l.trace.room ≡ l.initial.trace.room;
}
