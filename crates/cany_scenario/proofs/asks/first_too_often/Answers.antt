use Rattle.std.proofs.Common.{◌≡◌, ◌<◌, ℕ, true, false, nat_le, length, sym, ◌∙◌, below_more, arith}
use Rattle.std.proofs.lemmas.Bool.Decides.{nat_tests}
use Rattle.cany_base.specs.declared.message.NodeAsk.{NodeAsk}
use Rattle.cany_base.specs.Limits.{most_restarts_of_node}
use Rattle.cany_text.specs.AsksText.{is_one_too_many}
use Rattle.cany_text.proofs.FirstAfter.{holds_at, first_after-none, first_after-some}
use Rattle.cany_scenario.proofs.AsksFacts.{too_many_by_count}
use Rattle.cany_scenario.proofs.asks.first_too_often.Goals as goal

pub returns-then-count_of_node-ge-MOST_RESTARTS_OF_NODE :
    goal.returns-then-count_of_node-ge-MOST_RESTARTS_OF_NODE
returns-then-count_of_node-ge-MOST_RESTARTS_OF_NODE c =
    let asks = c.args.restarts.now in
    let place = c.loop-place.place in
    let restart = c.index-restarts-place.result in
    let within : place < length asks = omega arith in
    let full : nat_le most_restarts_of_node c.count_of_node.result ≡ true = grind (arith, nat_tests) in
    sym (first_after-some is_one_too_many asks place restart within (λ j below. c.loop-place.invariant j restart below)
    (too_many_by_count asks place restart restart c.count_of_node.result within c.index-restarts-place.is c.count_of_node.ensures ∙ full))

pub loop-place-preserved : goal.loop-place-preserved
loop-place-preserved c =
    let asks = c.args.restarts.now in
    let place = c.loop-place.place in
    let restart = c.index-restarts-place.result in
    let room : nat_le most_restarts_of_node c.count_of_node.result ≡ false = grind (arith, nat_tests) in
    λ k d before. below_more (λ (j : ℕ). (e : NodeAsk) → holds_at is_one_too_many asks j e ≡ false) place
    (λ j below e. c.loop-place.invariant j e below)
    (λ e. too_many_by_count asks place restart e c.count_of_node.result (omega arith) c.index-restarts-place.is c.count_of_node.ensures ∙ room) k before d

pub returns : goal.returns
returns c = sym (first_after-none is_one_too_many c.args.restarts.now (λ k d within. c.loop-place.invariant k d (omega arith)))
