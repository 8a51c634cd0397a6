use Rattle.std.proofs.Common.{ap, ◌∙◌, sym, subst}
use Rattle.cany_model.specs.Rules.Relcan.{has_timer_ahead}
use Rattle.cany_model.specs.Rules.Totcan.{has_closing_ahead}
use Rattle.cany_node.specs.Node.{NodeParts, IsNodeOf}
use Rattle.cany_node.proofs.AheadFacts.{of_edcan, of_relcan, of_totcan}
use Rattle.cany_node.proofs.OwnNode.{relcan_now, totcan_now}
use Rattle.cany_node.proofs.node.Node.has_nothing_ahead.Goals as goal

pub returns-in-Ed : goal.returns-in-Ed
returns-in-Ed c = λ none scenario past m is stands by. sym (of_edcan scenario m c.args.self.now.node past (by ∙ c.in-Ed.is))

pub returns-in-Rel : goal.returns-in-Rel
returns-in-Rel c = λ none scenario past m is stands by.
    let kept = subst (IsNodeOf scenario past) (sym c.self.view_is) is in
    sym (of_relcan scenario m c.args.self.now.node past (by ∙ c.in-Rel.is))
    ∙ sym (ap (λ k. has_timer_ahead scenario m k past) (kept.relcan.limits.node ∙ ap (λ (v : NodeParts). v.node) c.self.view_is))
    ∙ c.has_nothing_ahead.ensures none scenario past m (relcan_now scenario past _ kept) stands

pub returns-in-Tot : goal.returns-in-Tot
returns-in-Tot c = λ none scenario past m is stands by.
    let kept = subst (IsNodeOf scenario past) (sym c.self.view_is) is in
    sym (of_totcan scenario m c.args.self.now.node past (by ∙ c.in-Tot.is))
    ∙ sym (ap (λ k. has_closing_ahead scenario m k past) (kept.totcan.limits.node ∙ ap (λ (v : NodeParts). v.node) c.self.view_is))
    ∙ c.has_nothing_ahead-in-Tot.ensures none scenario past _ _ m (totcan_now scenario past _ kept) stands
