use Rattle.std.proofs.Common.{ap}
use Rattle.cany_base.specs.Params.{Parameters}
use Rattle.cany_scenario.proofs.asks.slot_at.Goals as goal

pub returns : goal.returns
returns c = rw (← ap (λ (p : Parameters). p.slots) c.params.view_is) c.number.ensures.value
