-- The limits of a value stay where its parts have as much room as before.
use Rattle.std.proofs.Common.{◌≡◌, ℕ, List, length, ◌∙◌}
use Rattle.cany_base.specs.Scenario.{ScenarioParts}
use Rattle.cany_totcan.specs.declared.queue.Open.{Open}
use Rattle.cany_totcan.specs.Backlog.{BacklogParts}
use Rattle.cany_totcan.specs.MessageSet.{MessageSetParts}
use Rattle.cany_totcan.specs.Queue.{OpenParts}
use Rattle.cany_totcan.specs.Totcan.{HasLimitsOf, TotcanParts}

pub limits_with : (scenario : ScenarioParts) (i : ℕ) (v : TotcanParts) (queue : OpenParts) (acceptances : List Open) (deliveries : MessageSetParts) (backlog : BacklogParts)
    → HasLimitsOf scenario i v → queue.room ≡ v.queue.room → queue.numbers ≡ v.queue.numbers → length deliveries.origins ≡ length v.deliveries.origins
    → HasLimitsOf scenario i (record v { queue = queue; acceptances = acceptances; deliveries = deliveries; backlog = backlog })
limits_with scenario i v queue acceptances deliveries backlog h room numbers origins = record {
  legal = h.legal;
  node = h.node;
  format = h.format;
  bound = h.bound;
  spacing = h.spacing;
  omit = h.omit;
  room = rw room h.room;
  at_once = room ∙ h.at_once;
  numbers = numbers ∙ h.numbers;
  deliveries = origins ∙ h.deliveries;
}
