use Rattle.std.proofs.Common.{rules, arith}
use Rattle.std.proofs.lemmas.Fn.{always_returns_same}
use Rattle.std.proofs.lemmas.List.Sorted.{IsNonDecreasingBy-from_sort_by_key}
use Rattle.cany_node.proofs.AskFacts.{asks_left, asks_rising, asks_stable}
use Rattle.cany_node.proofs.asks.AskPlan.build.Goals as goal

pub returns : goal.returns
returns c = record {
  left = asks_left c.args.node c.args.asks.now c.in_ok-by_slot.by_slot.items c.sort_by_key.new.self.items c.in_ok-by_slot.ensures.slots
      (asks_stable _ _ (c.sort_by_key.ensures.stable (λ s. s) (always_returns_same _ _ _ (λ a r q k. search rules))));
  rising = asks_rising 0 _ (IsNonDecreasingBy-from_sort_by_key (λ s. s) _ c.in_ok-sort_by_key.ensures.sorted (λ a r q k. search rules)) (λ d some. omega arith);
  few = omega (arith, c.in_ok-by_slot.ensures.few, c.sort_by_key.ensures.len);
}
