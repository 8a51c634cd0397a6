use Rattle.std.proofs.Common.{◌≤◌, ◌∙◌, ap, subst, arith}
use Rattle.cany_base.specs.Limits.{greatest_slots, most_slots}
use Rattle.cany_base.specs.declared.format.Format.{Format}
use Rattle.cany_base.specs.declared.format.Format.TheVariants.{One, Two}
use Rattle.cany_base.specs.Scenario.{IsLegalScenario, ScenarioParts}
use Rattle.cany_settle.specs.LongEnough.{tail}
use Rattle.cany_settle.proofs.LastEventFacts.{last_event_below}
use Rattle.cany_settle.proofs.length.needed.Goals as goal

short_runs : (format : Format) → greatest_slots format ≤ most_slots
short_runs One = omega arith
short_runs Two = omega arith

pub overflow_add-result : goal.overflow_add-result
overflow_add-result c =
    let w = c.args.world.now in
    let legal : IsLegalScenario w.scenario = subst IsLegalScenario c.scenario.ensures c.params-params.ensures.legal in
    let below = last_event_below w.scenario legal w.journal in
    let slots = legal.in_range.slots.1 in
    omega (arith, below, slots, short_runs w.scenario.params.format, c.last_event.ensures, c.tail_of.ensures.most)

pub returns : goal.returns
returns c =
    let t = c.tail_of.ensures.tail ∙ ap tail (c.params-params.ensures.params ∙ ap (λ (s : ScenarioParts). s.params) c.scenario.ensures) in
    omega (arith, c.last_event.ensures, t)
