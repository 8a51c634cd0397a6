-- The withdrawals of the cycles so far.
use Rattle.std.proofs.Common.{◌≡◌, ◌+◌, ◌≤◌, ◌++◌, length, take}
use Rattle.cany_views.specs.ViewsSteps.{withdrawals}
use Rattle.cany_views.proofs.asks.withdraw_asks.Given as goal

abbrev pub invariant-loop-cycle : goal.invariant-loop-cycle
invariant-loop-cycle l = record {
  actions : l.out.items ≡ l.initial.out.items ++ withdrawals l.format l.class l.node (take l.cycle-index l.cycles);
  few : length l.out.items ≤ length l.initial.out.items + l.cycle-index;
  room : l.out.room ≡ l.initial.out.room;
}
