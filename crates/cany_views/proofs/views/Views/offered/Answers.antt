use Rattle.cany_views.specs.ViewsFields.{parts_of}
use Rattle.cany_base.proofs.SetFacts.{below_minus, below_plus}
use Rattle.cany_views.proofs.views.Views.offered.Goals as goal

pub returns-clause-below : goal.returns-clause-below
returns-clause-below c =
    let v = parts_of c.self.inside in
    rw (← c.self.view_is, c.plus.ensures.set, c.minus-stay.ensures.set, c.minus.ensures.set)
    (below_plus v.params.nodes _ v.joiners
    (below_minus v.params.nodes _ v.leavers (below_minus v.params.nodes v.members c.args.failed c.self.invariant.below.members))
    c.self.invariant.below.joiners)
