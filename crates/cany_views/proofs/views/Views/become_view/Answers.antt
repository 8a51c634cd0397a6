use Rattle.cany_views.specs.ViewsFields.{parts_of}
use Rattle.cany_base.proofs.SetFacts.{below_meet, below_minus}
use Rattle.cany_views.proofs.ViewFacts.{bounds_with}
use Rattle.cany_views.proofs.views.Views.become_view.Goals as goal

pub invariant_of-self : goal.invariant_of-self
invariant_of-self c =
    let v = parts_of c.self.inside in
    rw (c.minus-self-inside.ensures.set, c.meet-self-inside.ensures.set)
    (bounds_with v c.args.vector _ _ c.self.invariant
    (record {
      members = rw (← c.self.view_is) at c.requires;
      joiners = below_minus v.params.nodes v.joiners c.args.vector c.self.invariant.below.joiners;
      leavers = below_meet v.params.nodes v.leavers c.args.vector c.self.invariant.below.leavers;
    }))
