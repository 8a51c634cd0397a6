use Rattle.std.proofs.Common.{◌≡◌, ◌∙◌, false, not, is_some, List, ap, sym}
use Rattle.cany_base.specs.declared.step.Step.{Step}
use Rattle.cany_base.specs.Scenario.{ScenarioParts}
use Rattle.cany_world.specs.World.{WorldParts}
use Rattle.cany_watch.proofs.WatchFacts.{none_given}
use Rattle.cany_watch.proofs.watching.run_again.Goals as goal

pub returns-then-is_none-clause-world : goal.returns-then-is_none-clause-world
returns-then-is_none-clause-world g c =
    let scenario = c.scenario.ensures ∙ ap (λ (w : WorldParts). w.scenario) c.world.ensures in
    let none : is_some c.journal.result ≡ false = c.is_none.ensures ∙ ap not c.if-is_none.true in
    let given = c.journal.ensures ∙ ap (λ (s : ScenarioParts). s.journal) scenario in
    c.run_rounds.ensures.world
    ∙ ap (λ (j : List Step). record c.args.hall.now.world { journal = j })
    (sym (none_given c.args.hall.now.world.scenario c.args.steps.now c.journal.result _ none given c.requires.run))
