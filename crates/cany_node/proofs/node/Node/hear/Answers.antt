use Rattle.std.proofs.Common.{ap, sym, subst, ◌∙◌, ◌++◌, ◌∷◌}
use Rattle.cany_model.specs.Rules.Actions.{actions_of}
use Rattle.cany_node.specs.Node.{IsNodeOf, NodeParts}
use Rattle.cany_node.specs.Membership.{IsNextOf}
use Rattle.cany_node.specs.Turning.{heard_effects}
use Rattle.cany_node.proofs.Idle.IdleFacts.{not_idle}
use Rattle.cany_node.proofs.HeardTurn.{has_heard, heard_listed}
use Rattle.cany_node.proofs.OwnNode.{edcan_now, relcan_now, totcan_now}
use Rattle.cany_node.proofs.node.Node.hear.Goals as goal

pub returns-clause-actions : goal.returns-clause-actions
returns-clause-actions c = λ scenario past stands next.
    let notice = c.args.notice.now in
    let kept = subst (IsNodeOf scenario past) (sym c.self.view_is) stands in
    let reading = subst (λ (v : NodeParts). IsNextOf scenario v.node past notice) (sym c.self.view_is) next in
    heard_listed scenario past notice _ kept c.args.out.now.items _ _ _ c.on-4.new.out.items
    (c.on.ensures.actions scenario past (edcan_now scenario past _ kept) next.next)
    (c.on-2.ensures.actions scenario past (relcan_now scenario past _ kept) next.next)
    (c.on-3.ensures.actions scenario past _ _ (totcan_now scenario past _ kept) next.next)
    (c.on-4.ensures.actions scenario c.self.inside.node past kept.membership reading)
    ∙ ap (λ (v : NodeParts). c.args.out.now.items ++ actions_of scenario.params.format (heard_effects scenario v.node (notice.kind ∷ past))) c.self.view_is

pub returns-clause-stands : goal.returns-clause-stands
returns-clause-stands c = λ scenario past stands next.
    let notice = c.args.notice.now in
    let kept = subst (IsNodeOf scenario past) (sym c.self.view_is) stands in
    let reading = subst (λ (v : NodeParts). IsNextOf scenario v.node past notice) (sym c.self.view_is) next in
    has_heard scenario past notice _ kept c.on.new.self c.on-2.new.self c.on-3.new.self c.on-4.new.self
    (c.on.ensures.stands scenario past (edcan_now scenario past _ kept) next.next)
    (c.on-2.ensures.stands scenario past (relcan_now scenario past _ kept) next.next)
    (c.on-3.ensures.stands scenario past _ _ (totcan_now scenario past _ kept) next.next)
    (c.on-4.ensures.stands scenario c.self.inside.node past kept.membership reading)

pub invariant_of-self : goal.invariant_of-self
invariant_of-self c = record { few = c.self.invariant.few; idle_until = not_idle _ _ c.forget_idle.ensures }
