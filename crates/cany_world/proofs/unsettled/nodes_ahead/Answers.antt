use Rattle.std.proofs.Common.{◌≡◌, refl, arith}
use Rattle.std.specs.Prelude.{slice_get, Some}
use Rattle.std.proofs.lemmas.Option.{slice_get_read}
use Rattle.cany_model.specs.Runs.Run.{run}
use Rattle.cany_model.proofs.Runs.Runs.{orderly}
use Rattle.can_bus.proofs.SetFacts.{so_far_all, so_far_more, so_far_none}
use Rattle.cany_world.specs.Settled.{nodes_ahead}
use Rattle.cany_world.proofs.UnsettledFacts.{none_has_ahead}
use Rattle.cany_world.proofs.unsettled.nodes_ahead.Goals as goal

pub loop-i-init : goal.loop-i-init
loop-i-init c scenario journal m about by = so_far_none _ _ c.empty-set.ensures.set

pub loop-i-preserved : goal.loop-i-preserved
loop-i-preserved c scenario journal m about by =
    let at : slice_get c.args.controllers.now c.loop-i.i ≡ Some c.index-controllers-i.result =
    slice_get_read c.args.controllers.now _ c.loop-i.i c.index-controllers-i.result refl c.loop-i-test.true c.index-controllers-i.is in
    let at_node : slice_get c.args.nodes.now c.loop-i.i ≡ Some c.index-nodes-i.result =
    slice_get_read c.args.nodes.now _ c.loop-i.i c.index-nodes-i.result c.requires.count c.loop-i-test.true c.index-nodes-i.is in
    so_far_more _ _ _ _ _ (c.loop-i.invariant scenario journal m about by) c.insert_if.ensures
    (c.has_ahead.ensures scenario (run scenario journal) c.loop-i.i m (about.controllers.each c.loop-i.i _ at) (about.nodes.each c.loop-i.i _ at_node) about.stands about.key by)

pub returns : goal.returns
unfolding nodes_ahead
returns c scenario journal m about by =
    so_far_all _ c.loop-i.i _ (c.loop-i.invariant scenario journal m about by) (omega arith)
    (λ k past. none_has_ahead scenario (run scenario journal) m k
    (omega (arith, past, c.loop-i-test.false, about.controllers.whole, (orderly scenario journal).count)))
