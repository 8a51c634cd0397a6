use Rattle.std.proofs.Common.{◌≡◌, ◌<◌, ℕ, false}
use Rattle.cany_base.specs.declared.message.NodeAsk.{NodeAsk}
use Rattle.cany_text.specs.AsksText.{is_one_too_many}
use Rattle.cany_text.proofs.FirstAfter.{holds_at}
use Rattle.cany_scenario.proofs.asks.first_too_often.Given as goal

-- none so far is one too many
abbrev pub invariant-loop-place : goal.invariant-loop-place
invariant-loop-place l = (k : ℕ) (d : NodeAsk) → k < l.place → holds_at is_one_too_many l.restarts k d ≡ false
