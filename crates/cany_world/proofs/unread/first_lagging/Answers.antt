use Rattle.std.proofs.Common.{◌≡◌, refl, sym, ap, ◌∙◌, arith}
use Rattle.std.specs.Prelude.{Some, slice_get}
use Rattle.cany_world.proofs.AlikeFacts.{lagging_here, lagging_next, lagging_none}
use Rattle.cany_world.proofs.PlaceFacts.{found}
use Rattle.cany_world.proofs.unread.first_lagging.Goals as goal

pub returns-then-lags : goal.returns-then-lags
returns-then-lags c scenario journal kept =
    let at : slice_get c.args.controllers.now c.loop-i.i ≡ Some c.index-controllers-i.result =
    found c.args.controllers.now _ c.loop-i.i _ c.index-controllers-i.result refl refl c.loop-i-test.true c.index-controllers-i.is in
    ap (λ i. Some (i, c.unread.result)) c.of_index.ensures ∙ ap (λ n. Some (c.loop-i.i, n)) c.unread.ensures.count
    ∙ lagging_here c.args.lag c.loop-i.i c.args.controllers.now c.index-controllers-i.result at c.loop-i-test.true c.loop-i.invariant scenario journal kept
    (sym c.lags.ensures ∙ c.if-lags.true)

pub loop-i-preserved : goal.loop-i-preserved
loop-i-preserved c scenario journal kept =
    let at : slice_get c.args.controllers.now c.loop-i.i ≡ Some c.index-controllers-i.result =
    found c.args.controllers.now _ c.loop-i.i _ c.index-controllers-i.result refl refl c.loop-i-test.true c.index-controllers-i.is in
    lagging_next c.args.lag c.loop-i.i c.args.controllers.now c.index-controllers-i.result at c.loop-i-test.true c.loop-i.invariant scenario journal kept
    (sym c.lags.ensures ∙ c.if-lags.false)

pub returns : goal.returns
returns c = lagging_none c.args.lag c.loop-i.i c.args.controllers.now (omega arith) c.loop-i.invariant
