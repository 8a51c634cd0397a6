use Rattle.std.proofs.Common.{◌≡◌, refl, sym, arith}
use Rattle.std.specs.Prelude.{slice_get, Some}
use Rattle.std.proofs.lemmas.Option.{slice_get_read}
use Rattle.cany_model.specs.Runs.Run.{run}
use Rattle.cany_world.proofs.SettledFacts.{left_to_all, left_to_next, none_ahead}
use Rattle.cany_world.proofs.finished.nothing_is_ahead.Goals as goal

pub loop-i-init : goal.loop-i-init
loop-i-init c key = left_to_all c.args.service key c.args.controllers.now c.args.nodes.now

pub loop-i-preserved : goal.loop-i-preserved
loop-i-preserved c key scenario journal m about by =
    let at : slice_get c.args.controllers.now c.loop-i.i ≡ Some c.index-controllers-i.result =
    slice_get_read c.args.controllers.now _ c.loop-i.i c.index-controllers-i.result refl c.loop-i-test.true c.index-controllers-i.is in
    let at_node : slice_get c.args.nodes.now c.loop-i.i ≡ Some c.index-nodes-i.result =
    slice_get_read c.args.nodes.now _ c.loop-i.i c.index-nodes-i.result c.requires c.loop-i-test.true c.index-nodes-i.is in
    left_to_next c.loop-i.i c.args.service key c.args.controllers.now c.args.nodes.now (c.loop-i.invariant key) scenario journal m about by c.loop-i-test.true
    (c.may_have_ahead.ensures c.if-may_have_ahead.false scenario (run scenario journal) c.loop-i.i m (about.controllers.each c.loop-i.i _ at) (about.nodes.each c.loop-i.i _ at_node) about.stands by)

pub returns : goal.returns
returns c is scenario journal m key about by =
    sym (none_ahead c.loop-i.i c.args.service key c.args.controllers.now c.args.nodes.now (c.loop-i.invariant key) scenario journal m about by (omega arith))
