use Rattle.std.proofs.Common.{◌∙◌, ap, sym, subst, arith}
use Rattle.std.proofs.lemmas.Bool.{leb-true}
use Rattle.cany_base.specs.Params.{Parameters}
use Rattle.cany_base.specs.Scenario.{IsLegalScenario, ScenarioParts}
use Rattle.cany_settle.proofs.LongEnough.{settles_in_the_end}
use Rattle.cany_settle.proofs.length.long_enough.Goals as goal

pub returns-clause-settled : goal.returns-clause-settled
returns-clause-settled c = λ enough within m stands.
    let w = c.args.world.now in
    let same = c.scenario.ensures in
    let slots = ap (λ (p : Parameters). p.slots) (c.behind-scenario.view_is ∙ c.params.ensures.params) ∙ ap (λ (s : ScenarioParts). s.params.slots) same in
    settles_in_the_end w.scenario w.journal (subst IsLegalScenario same c.params.ensures.legal)
    (ap (λ (s : ScenarioParts). s.from) (sym same) ∙ c.params.ensures.whole) within c.requires.ended
    (omega (arith, leb-true c.needed.result c.behind-scenario.inside.slots enough, slots, c.needed.ensures)) m stands
