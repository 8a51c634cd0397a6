-- Whether a restart is one too many for its node, by how many of the node stand before it.
use Rattle.std.proofs.Common.{◌≡◌, ℕ, ◌<◌, nat_le, ap, sym, ◌∙◌, take, get_or, length, List}
use Rattle.std.specs.Prelude.{count_by}
use Rattle.std.proofs.lemmas.List.{get_or_default}
use Rattle.cany_base.specs.declared.message.NodeAsk.{NodeAsk}
use Rattle.cany_base.specs.Limits.{most_restarts_of_node}
use Rattle.cany_base.specs.Scenario.{is_ask_of_node}
use Rattle.cany_text.specs.AsksText.{is_one_too_many}
use Rattle.cany_text.proofs.AsksTextLegal.{too_many_at}
use Rattle.cany_text.proofs.FirstAfter.{holds_at}

pub too_many_by_count : (asks : List NodeAsk) (k : ℕ) (ask d : NodeAsk) (count : ℕ) → k < length asks → ask ≡ get_or asks k ask
    → count ≡ count_by (is_ask_of_node ask.node) (take k asks) → holds_at is_one_too_many asks k d ≡ nat_le most_restarts_of_node count
too_many_by_count asks k ask d count within is counted =
    too_many_at asks k d
    ∙ ap (λ (a : NodeAsk). nat_le most_restarts_of_node (count_by (is_ask_of_node a.node) (take k asks))) (get_or_default asks k d ask within ∙ sym is)
    ∙ ap (nat_le most_restarts_of_node) (sym counted)
