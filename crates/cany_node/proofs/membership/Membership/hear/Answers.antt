use Rattle.std.proofs.Common.{subst, sym}
use Rattle.cany_model.specs.Rules.KnowledgeOf.{knowledge_of}
use Rattle.cany_node.specs.Membership.{IsMembershipOf}
use Rattle.cany_node.proofs.MembershipSteps.{all_heard, failures_listed, life_next, life_stands, views_stand}
use Rattle.cany_node.proofs.membership.Membership.hear.Goals as goal

pub returns-clause-actions : goal.returns-clause-actions
returns-clause-actions c = λ scenario i past h next.
    let stands = subst (IsMembershipOf scenario i past) (sym c.self.view_is) h in
    let notice = c.args.notice.now in
    let heard = c.hear.ensures.stands scenario (knowledge_of scenario i past) (views_stand scenario i past notice _ stands next) next.next.readable in
    failures_listed scenario i past notice _ stands next c.hear.new.self heard _ c.members-members.ensures.members
    c.args.out.now.items c.on.new.out.items
    (c.on.ensures.actions scenario past _ (life_stands scenario i past notice _ stands next) (life_next scenario i past notice _ stands next))

pub returns-clause-exchanges : goal.returns-clause-exchanges
returns-clause-exchanges c = λ scenario i past h next.
    let stands = subst (IsMembershipOf scenario i past) (sym c.self.view_is) h in
    let notice = c.args.notice.now in
    let heard = c.hear.ensures.stands scenario (knowledge_of scenario i past) (views_stand scenario i past notice _ stands next) next.next.readable in
    all_heard scenario i past notice _ stands next c.hear.new.self heard _ c.members-members.ensures.members c.on.new.self
    (c.on.ensures.stands scenario past _ (life_stands scenario i past notice _ stands next) (life_next scenario i past notice _ stands next))
