use Rattle.std.proofs.Common.{◌∙◌, ap, arith}
use Rattle.cany_base.specs.Params.{Parameters}
use Rattle.cany_base.specs.Scenario.{ScenarioParts}
use Rattle.cany_model.specs.Runs.Run.{run}
use Rattle.cany_settle.proofs.TextFacts.{enough_no, enough_yes}
use Rattle.cany_settle.proofs.text.write_enough.Goals as goal

pub returns-then-needed-params : goal.returns-then-needed-params
returns-then-needed-params g c =
    let w = c.args.world.now in
    let slots = ap (λ (p : Parameters). p.slots) (c.behind-scenario.view_is ∙ c.params.ensures.params) ∙ ap (λ (s : ScenarioParts). s.params.slots) c.scenario.ensures in
    rw (enough_yes w.scenario (run w.scenario w.journal) (omega (arith, slots, c.needed-needed.ensures, c.if-needed-params.true))) c.write_word.ensures

pub returns-else-needed-params : goal.returns-else-needed-params
returns-else-needed-params g c =
    let w = c.args.world.now in
    let slots = ap (λ (p : Parameters). p.slots) (c.behind-scenario.view_is ∙ c.params.ensures.params) ∙ ap (λ (s : ScenarioParts). s.params.slots) c.scenario.ensures in
    rw (enough_no w.scenario (run w.scenario w.journal) c.needed-needed.result c.needed-needed.ensures (omega (arith, slots, c.if-needed-params.false))) c.write_number.ensures
