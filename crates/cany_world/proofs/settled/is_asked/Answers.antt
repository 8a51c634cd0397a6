use Rattle.std.proofs.Common.{◌≡◌, refl, ap, sym, subst, ◌∙◌}
use Rattle.std.specs.Prelude.{slice_get, Some}
use Rattle.cany_base.specs.declared.message.MsgKey.{MsgKey}
use Rattle.cany_model.specs.Runs.Run.{run}
use Rattle.cany_model.specs.Bus.State.{node_at}
use Rattle.cany_world.specs.Kept.{IsKeptAs, IsKeptAt}
use Rattle.cany_world.proofs.PlaceFacts.{found}
use Rattle.cany_world.proofs.settled.is_asked.Goals as goal

pub returns : goal.returns
returns c scenario journal m about slot =
    let at : c.from-origin.result ≡ c.args.key.now.origin = c.from-origin.ensures ∙ c.get.ensures.value in
    let origin : m.origin ≡ c.args.key.now.origin = ap (λ (k : MsgKey). k.origin) about.key in
    let controller : slice_get c.args.controllers.now c.args.key.now.origin ≡ Some c.index-controllers-origin.result =
    found c.args.controllers.now _ c.args.key.now.origin c.from-origin.result c.index-controllers-origin.result refl at c.requires.origin c.index-controllers-origin.is in
    let node : slice_get c.args.nodes.now c.args.key.now.origin ≡ Some c.index-nodes-origin.result =
    found c.args.nodes.now _ c.args.key.now.origin c.from-origin.result c.index-nodes-origin.result refl at (rw (sym c.requires.count) c.requires.origin) c.index-nodes-origin.is in
    c.has_asked.ensures scenario journal m
    (subst (λ k. IsKeptAs scenario (run scenario journal).trace k (node_at (run scenario journal).nodes k) c.index-controllers-origin.result) (sym origin)
    (about.controllers.each c.args.key.now.origin c.index-controllers-origin.result controller))
    (subst (λ k. IsKeptAt scenario (run scenario journal).trace k (node_at (run scenario journal).nodes k) c.index-nodes-origin.result) (sym origin)
    (about.nodes.each c.args.key.now.origin c.index-nodes-origin.result node))
    about.stands about.key slot
