use Rattle.std.proofs.Common.{subst, sym}
use Rattle.cany_base.specs.Nodes.{nobody}
use Rattle.cany_views.specs.Views.{IsViewsOf}
use Rattle.cany_views.specs.ViewsFields.{parts_of}
use Rattle.cany_views.proofs.ViewFacts.{bounds_with, outside_below, outside_stands}
use Rattle.cany_views.proofs.views.Views.begin_outside.Goals as goal

pub invariant_of-self : goal.invariant_of-self
invariant_of-self c =
    let v = parts_of c.self.inside in
    rw (c.empty-self-inside.ensures.set, c.empty-self-inside-2.ensures.set, c.empty-self-inside-3.ensures.set)
    (bounds_with v nobody nobody nobody c.self.invariant (outside_below v))

pub returns-clause-stands : goal.returns-clause-stands
returns-clause-stands c = λ scenario knowledge h.
    rw (c.empty-self-inside.ensures.set, c.empty-self-inside-2.ensures.set, c.empty-self-inside-3.ensures.set)
    (outside_stands scenario c.args.self.now.node knowledge (parts_of c.self.inside)
    (subst (λ v. IsViewsOf scenario c.args.self.now.node knowledge v) (sym c.self.view_is) h))
