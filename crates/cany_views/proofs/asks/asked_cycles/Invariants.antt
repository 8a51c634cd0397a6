-- The cycles of the asks so far.
use Rattle.std.proofs.Common.{◌≡◌, ◌≤◌, length, take}
use Rattle.cany_views.specs.Views.{asked_cycles}
use Rattle.cany_views.proofs.asks.asked_cycles.Given as goal

abbrev pub invariant-loop-ask : goal.invariant-loop-ask
invariant-loop-ask l = record {
  items : l.cycles.items ≡ asked_cycles l.params l.node (take l.ask-index l.asks);
  few : length l.cycles.items ≤ l.ask-index;
  room : l.cycles.room ≡ length l.asks;
}
