use Rattle.std.proofs.Common.{◌≡◌, ◌∙◌, ap, arith}
use Rattle.cany_base.specs.Params.{Parameters}
use Rattle.cany_base.specs.Scenario.{ScenarioParts}
use Rattle.cany_watch.specs.Lines.{nodes_of}
use Rattle.cany_watch.proofs.PublishFacts.{none_published, same_publisher}
use Rattle.cany_watch.proofs.publishing.publish_all.Goals as goal

pub publish_line-requires-clause-taken : goal.publish_line-requires-clause-taken
publish_line-requires-clause-taken g c =
    let nodes : c.from-i-end.result ≡ nodes_of c.args.world.now =
    c.from-i-end.ensures ∙ ap (λ (p : Parameters). p.nodes) (c.behind-scenario.view_is ∙ c.params.ensures.params) ∙ ap (λ (s : ScenarioParts). s.params.nodes) c.scenario.ensures in
    rw c.of_index.ensures ((same_publisher c.loop-i.is_all c.args.world.now c.args.publishers.now c.loop-i.publishers c.loop-i.i c.index-publishers-i.result c.requires c.loop-i.invariant
    (omega (arith, c.loop-i-test.true, c.requires.count, nodes))).taken)

pub publish_line-requires-clause-shown : goal.publish_line-requires-clause-shown
publish_line-requires-clause-shown g c =
    let nodes : c.from-i-end.result ≡ nodes_of c.args.world.now =
    c.from-i-end.ensures ∙ ap (λ (p : Parameters). p.nodes) (c.behind-scenario.view_is ∙ c.params.ensures.params) ∙ ap (λ (s : ScenarioParts). s.params.nodes) c.scenario.ensures in
    (same_publisher c.loop-i.is_all c.args.world.now c.args.publishers.now c.loop-i.publishers c.loop-i.i c.index-publishers-i.result c.requires c.loop-i.invariant
    (omega (arith, c.loop-i-test.true, c.requires.count, nodes))).shown

pub loop-i-init : goal.loop-i-init
loop-i-init g c = none_published _ _ _
