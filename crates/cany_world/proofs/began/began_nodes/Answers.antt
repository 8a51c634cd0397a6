use Rattle.std.proofs.Common.{◌≡◌, refl, arith, ◌∙◌}
use Rattle.std.specs.Prelude.{slice_get, Some}
use Rattle.std.proofs.lemmas.Option.{slice_get_read}
use Rattle.cany_model.specs.Bus.Restart.{restarted_in}
use Rattle.cany_model.specs.Runs.Run.{run}
use Rattle.cany_model.specs.Bus.State.{node_at}
use Rattle.cany_model.proofs.Runs.Runs.{orderly}
use Rattle.can_bus.proofs.SetFacts.{so_far_all, so_far_more, so_far_none}
use Rattle.cany_world.proofs.InOrder.{in_order}
use Rattle.cany_world.proofs.SpansAndLogs.{began_is, none_began}
use Rattle.cany_world.proofs.began.began_nodes.Goals as goal

pub loop-i-init : goal.loop-i-init
loop-i-init c scenario journal are = so_far_none _ _ c.empty-set.ensures.set

pub loop-i-preserved : goal.loop-i-preserved
loop-i-preserved c scenario journal are =
    let at : slice_get c.args.nodes.now c.loop-i.i ≡ Some c.index-nodes-i.result =
    slice_get_read c.args.nodes.now _ c.loop-i.i c.index-nodes-i.result refl c.loop-i-test.true c.index-nodes-i.is in
    so_far_more _ _ _ _ _ (c.loop-i.invariant scenario journal are) c.insert_if.ensures
    (c.began_in.ensures ∙ began_is scenario (run scenario journal).trace c.loop-i.i c.args.slot (node_at (run scenario journal).nodes c.loop-i.i) c.index-nodes-i.result (in_order scenario journal c.loop-i.i)
    (are.each c.loop-i.i c.index-nodes-i.result at))

pub returns : goal.returns
unfolding restarted_in
returns c scenario journal are =
    so_far_all _ c.loop-i.i _ (c.loop-i.invariant scenario journal are) (omega arith)
    (λ k past. none_began (run scenario journal).nodes c.args.slot k (omega (arith, past, c.loop-i-test.false, are.whole, (orderly scenario journal).count)))
