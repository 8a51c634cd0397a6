use Rattle.std.proofs.Common.{ap, ◌∙◌, sym, subst}
use Rattle.cany_model.specs.Rules.Relcan.{has_timer_ahead}
use Rattle.cany_node.specs.Node.{NodeParts, IsNodeOf}
use Rattle.cany_node.proofs.AheadFacts.{of_edcan, of_relcan, of_totcan}
use Rattle.cany_node.proofs.OwnNode.{relcan_now, totcan_now}
use Rattle.cany_node.proofs.node.Node.ahead_by.Goals as goal

pub returns-in-Ed : goal.returns-in-Ed
returns-in-Ed c = λ scenario past is m stands named by. of_edcan scenario m c.args.self.now.node past (by ∙ c.in-Ed.is)

pub returns-in-Rel : goal.returns-in-Rel
returns-in-Rel c = λ scenario past is m stands named by.
    let kept = subst (IsNodeOf scenario past) (sym c.self.view_is) is in
    let i = c.args.self.now.node in
    let his = relcan_now scenario past _ kept in
    c.ahead.ensures.message scenario past m his stands named
    ∙ ap (λ k. has_timer_ahead scenario m k past) (kept.relcan.limits.node ∙ ap (λ (v : NodeParts). v.node) c.self.view_is)
    ∙ of_relcan scenario m i past (by ∙ c.in-Rel.is)

pub returns-in-Tot : goal.returns-in-Tot
returns-in-Tot c = λ scenario past is m stands named by.
    let kept = subst (IsNodeOf scenario past) (sym c.self.view_is) is in
    let i = c.args.self.now.node in
    let ours = totcan_now scenario past _ kept in
    c.ahead-in-Tot.ensures.message scenario past _ _ m ours stands named ∙ of_totcan scenario m i past (by ∙ c.in-Tot.is)
