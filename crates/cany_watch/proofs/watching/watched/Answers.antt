use Rattle.std.proofs.Common.{◌≡◌, ◌∙◌, ◌<◌, List, ap, map, subst, sym, arith}
use Rattle.std.specs.Prelude.{IfOk}
use Rattle.cany_base.specs.declared.actions.Action.TheVariants.{Enter}
use Rattle.cany_base.specs.declared.step.Step.{Step}
use Rattle.cany_base.specs.Scenario.{ScenarioParts}
use Rattle.cany_model.specs.Runs.Follow.{journal_of}
use Rattle.cany_model.specs.Runs.Run.{IsLegal}
use Rattle.cany_world.specs.World.{WorldParts}
use Rattle.cany_watch.specs.Lines.{line_of}
use Rattle.cany_watch.proofs.WatchFacts.{book_of}
use Rattle.cany_watch.proofs.watching.watched.Goals as goal

pub watch_steps-line-requires-clause-fresh : goal.watch_steps-line-requires-clause-fresh
watch_steps-line-requires-clause-fresh g c κs within = ap (λ (w : WorldParts). w.journal) c.in_ok-hall.ensures.world

pub watch_steps-line-requires-clause-legal : goal.watch_steps-line-requires-clause-legal
watch_steps-line-requires-clause-legal g c κs within =
    let scenario = ap (λ (w : WorldParts). w.scenario) c.in_ok-hall.ensures.world ∙ c.scenario.ensures in
    subst (λ (s : ScenarioParts). IsLegal s c.journal.result.now) (sym scenario)
    (subst (λ (j : List Step). IsLegal c.args.world.now.scenario j) (sym c.journal.ensures.journal) c.journal.ensures.legal)

pub watch_steps-line-requires-clause-run : goal.watch_steps-line-requires-clause-run
watch_steps-line-requires-clause-run g c κs within =
    let scenario = ap (λ (w : WorldParts). w.scenario) c.in_ok-hall.ensures.world ∙ c.scenario.ensures in
    c.journal.ensures.journal ∙ c.requires.run ∙ ap journal_of (sym scenario)

pub watch_steps-line-requires-clause-node : goal.watch_steps-line-requires-clause-node
watch_steps-line-requires-clause-node g c κs within =
    let scenario = ap (λ (w : WorldParts). w.scenario) c.in_ok-hall.ensures.world ∙ c.scenario.ensures in
    subst (λ (s : ScenarioParts). c.args.node < s.params.nodes) (sym scenario) c.requires.node

pub watch_steps-line-requires-clause-book : goal.watch_steps-line-requires-clause-book
watch_steps-line-requires-clause-book g c κs within =
    let scenario = c.scenario.ensures in
    let nodes = ap (λ (s : ScenarioParts). s.params.nodes) scenario in
    let at = c.from.ensures ∙ c.get.ensures.value in
    book_of c.in_ok-hall.readings.items c.in_ok-hall.hall.publishers c.from.result c.args.node c.index_mut-reading.result.now at
    (omega (arith, at, c.requires.node, nodes, c.in_ok-hall.ensures.count, c.in_ok-hall.readings.ok.0)) c.index_mut-reading.ensures.value
    (c.in_ok-hall.ensures.readings c.args.node (omega (arith, c.requires.node, nodes)))

pub returns : goal.returns
returns g c =
    let hall : WorldParts = c.in_ok-hall.hall.world in
    let scenario : hall.scenario ≡ c.args.world.now.scenario = ap (λ (w : WorldParts). w.scenario) c.in_ok-hall.ensures.world ∙ c.scenario.ensures in
    let world : record hall { journal = c.journal.result.now } ≡ c.args.world.now = λ i. record { scenario = scenario i; journal = c.journal.ensures.journal i } in
    subst (λ (w : WorldParts). IfOk c.watch_steps-line.result (λ out. out.items ≡ map Enter (line_of w c.args.node))) world c.watch_steps-line.ensures
