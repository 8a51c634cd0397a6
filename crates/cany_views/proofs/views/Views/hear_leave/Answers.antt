use Rattle.cany_views.specs.ViewsFields.{parts_of}
use Rattle.cany_base.proofs.SetFacts.{below_with}
use Rattle.cany_views.proofs.ViewFacts.{bounds_with}
use Rattle.cany_views.proofs.views.Views.hear_leave.Goals as goal

pub invariant_of-self : goal.invariant_of-self
invariant_of-self c =
    let v = parts_of c.self.inside in
    rw c.insert.ensures.set
    (bounds_with v v.members v.joiners _ c.self.invariant
    (record {
      members = c.self.invariant.below.members;
      joiners = c.self.invariant.below.joiners;
      leavers =
          below_with v.params.nodes c.frame.inside.node v.leavers (rw (← c.self.view_is, ← c.frame.view_is) at c.requires)
          c.self.invariant.below.leavers;
    }))
