use Rattle.std.proofs.Common.{subst, sym}
use Rattle.cany_base.specs.Nodes.{AllBelow}
use Rattle.cany_views.proofs.ActionFacts.{view_acts}
use Rattle.cany_base.proofs.SetFacts.{below_minus}
use Rattle.cany_views.proofs.ViewFacts.{view_stands}
use Rattle.cany_views.proofs.views.Views.install.Goals as goal

pub returns-clause-below : goal.returns-clause-below
returns-clause-below c =
    subst (AllBelow c.args.self.now.params.nodes) (sym c.minus-newly.ensures.set)
    (below_minus c.args.self.now.params.nodes c.args.ended.vector c.self.inside.members c.requires.vector)

pub returns-clause-stands : goal.returns-clause-stands
returns-clause-stands c = λ scenario knowledge h.
    rw c.become_view.ensures
    (view_stands scenario c.args.self.now.node knowledge c.args.self.now h c.args.now c.args.ended.vector c.requires.vector)

pub returns-clause-actions : goal.returns-clause-actions
returns-clause-actions c = λ scenario knowledge h.
    view_acts scenario c.args.self.now.node c.args.now c.args.ended.vector c.args.self.now knowledge h
    c.args.out.now.items c.act_on_view.new.out.items (rw c.become_view.ensures at c.act_on_view.ensures.actions)
